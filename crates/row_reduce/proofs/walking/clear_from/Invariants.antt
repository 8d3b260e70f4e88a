use Rattle.std.proofs.Common.{get_or}
use Rattle.linear_law.specs.Names.{StartsAt}
use Rattle.row_reduce.proofs.walking.clear_from.Given as goal

abbrev pub invariant-loop-at : goal.invariant-loop-at
invariant-loop-at g l = StartsAt g.row.P l.at (λ y. get_or l.sum y 0)
