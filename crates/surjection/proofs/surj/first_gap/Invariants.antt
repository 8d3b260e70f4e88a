use Rattle.std.proofs.Common.{◌≡◌, ◌-◌, ◌==◌, find}
use Rattle.signed_sum.specs.Names.{numbers_from, occurs}
use Rattle.surjection_law.specs.Names.{arity}
use Rattle.surjection.proofs.surj.first_gap.Given as goal

abbrev pub invariant-loop-value : goal.invariant-loop-value
invariant-loop-value l =
    find (λ v. occurs v l.values == 0) (numbers_from l.value (l.most - l.value)) ≡ find (λ v. occurs v l.values == 0) (numbers_from 1 (arity l.values - 1))
