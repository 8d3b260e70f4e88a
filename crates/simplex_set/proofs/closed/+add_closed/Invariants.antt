use Rattle.std.proofs.Common.{length}
use Rattle.simplex_set.{specs.InOrder.in_order, proofs.AddingFaces.IsPartly}
use Rattle.simplex_set.proofs.closed.+add_closed.Given as goal

abbrev pub decreases-add_closed : goal.decreases-add_closed
decreases-add_closed l = length l.simplex

abbrev pub invariant-loop-at : goal.invariant-loop-at
invariant-loop-at l = IsPartly (in_order l.fn.set.keys) l.fn.simplex l.at (in_order l.set.keys)
