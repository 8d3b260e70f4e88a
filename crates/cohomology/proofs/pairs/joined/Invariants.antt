use Rattle.std.proofs.Common.{◌⊎◌}
use Rattle.row_reduce.specs.Names.{IsLeadIn, IsMarkedIn}
use Rattle.cohomology.proofs.PairLemmas.{MarksTo}
use Rattle.cohomology.proofs.pairs.joined.Given as goal

abbrev pub invariant-loop-at : goal.invariant-loop-at
invariant-loop-at l = MarksTo (λ x. IsLeadIn l.pivots x ⊎ IsMarkedIn l.marks x) l.at l.table.items
