use Rattle.std.proofs.Common.{◌∙◌, ap, max, length, arith, List, ℕ}
use Rattle.simplex_set.proofs.Sizes.{largest_more}
use Rattle.simplex_set.proofs.levels.largest.Goals as goal

pub loop-simplex-preserved : goal.loop-simplex-preserved
loop-simplex-preserved c = largest_more c.args.all.now c.loop-simplex.simplex-index c.loop-simplex.most c.max-most.result c.simplex-item.result (omega arith) c.simplex-item.is c.loop-simplex.invariant
    (c.max-most.ensures ∙ ap (λ (s : List ℕ). max c.loop-simplex.most (length s)) c.vertices.ensures)
