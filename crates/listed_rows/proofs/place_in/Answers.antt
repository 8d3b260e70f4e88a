use Rattle.std.proofs.Common.{arith}
use Rattle.listed_rows.proofs.ChainLemmas.{placed}
use Rattle.listed_rows.proofs.place_in.Goals as goal

pub returns : goal.returns
returns c = placed c.args.index.now c.args.n c.args.vertices.now c.place_of.result (omega arith) c.place_of.ensures
