use Rattle.std.proofs.Common.{◌≡◌}
use Rattle.surjection.proofs.SumLemmas.{IsPartOfSum}
use Rattle.surjection.proofs.composition.Splice.+add_cuts.Given as goal

abbrev pub decreases-add_cuts : goal.decreases-add_cuts
decreases-add_cuts l = l.left

-- what is added, and what is to come
abbrev pub invariant-loop-place : goal.invariant-loop-place
invariant-loop-place l =
    (l.cut.items ≡ l.initial.cut.items) × IsPartOfSum l.self.at l.self.outer.items l.self.inner.items l.initial.cut.items l.from l.place l.left l.initial.sum l.sum
