use Rattle.block_check.proofs.NameLemmas.{new_map}
use Rattle.block_check.proofs.names.is_new_map.Goals as goal

pub returns-then-earlier-lt8 : goal.returns-then-earlier-lt8
returns-then-earlier-lt8 c = new_map c.args.complexes.now c.args.earlier.now c.args.part.now c.bytes.result.now c.is_taken.result c.if-earlier-lt8.true c.is_taken.ensures c.bytes.ensures
