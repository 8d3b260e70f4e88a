use Rattle.std.proofs.Common.{arith}
use Rattle.complex_file.proofs.MapLemmas.{edge_turned, edges_kept}
use Rattle.complex_file.proofs.sends.Sends.keeps_facet.Goals as goal

pub returns-then-image-last : goal.returns-then-image-last
returns-then-image-last c =
    edge_turned c.args.self.now c.vertices-v-items.result.now c.args.facet.now c.loop-v.last c.loop-v.v-index c.image-image.result
    c.vertices-v-items.ensures (omega arith) c.image-image.ensures (omega arith) c.loop-v.invariant

pub returns : goal.returns
returns c =
    edges_kept c.args.self.now c.vertices-v-items.result.now c.args.facet.now c.loop-v.last c.loop-v.v-index
    c.vertices-v-items.ensures (omega arith) c.loop-v.invariant
