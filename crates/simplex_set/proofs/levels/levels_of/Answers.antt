use Rattle.std.proofs.Common.{arith, subst, List, ℕ}
use Rattle.simplex_set.{specs.InOrder.in_order, specs.Levels.IsLargest, proofs.Ordered.largest_in_order, proofs.Sizes.all_first}
use Rattle.simplex_set.proofs.levels.levels_of.Goals as goal

pub returns : goal.returns
returns c =
    all_first (in_order c.args.set.now.keys) c.loop-degree.levels.items c.loop-degree.degree c.largest-degree-end.result c.loop-degree.invariant
    (largest_in_order c.args.set.now.keys c.largest-degree-end.result (subst (λ (ks : List (List ℕ)). IsLargest ks c.largest-degree-end.result) c.as_slice.ensures.keys c.largest-degree-end.ensures))
    (omega arith)
