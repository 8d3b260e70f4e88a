use Rattle.std.proofs.Common.{arith}
use Rattle.complex_index.proofs.Alternating.{shrunk_step}
use Rattle.complex_index.proofs.chains.boundary_pairs.Goals as goal

pub loop-pair-preserved : goal.loop-pair-preserved
loop-pair-preserved g c =
    shrunk_step g.row.P c.args.faces.now c.args.row.now c.loop-pair.pair-index c.pair-item.result c.loop-pair.found.items c.put_faces.new.pairs.items c.get.result.now
    (omega arith) c.pair-item.is c.get.ensures c.in_ok-put_faces.ensures c.loop-pair.invariant
