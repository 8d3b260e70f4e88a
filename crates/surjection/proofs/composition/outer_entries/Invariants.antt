use Rattle.std.proofs.Common.{◌≡◌, ◌++◌, drop}
use Rattle.surjection_law.specs.Surjections.{arity}
use Rattle.composition_law.specs.Surjections.{grown, with_values}
use Rattle.surjection.specs.{Splicing.marked, declared.composition.Mark.TheVariants.Outer}
use Rattle.surjection.proofs.composition.outer_entries.Given as goal

abbrev pub invariant-loop-i : goal.invariant-loop-i
invariant-loop-i l = l.entries.items ++ with_values (grown l.k (arity l.inner)) (marked Outer (drop l.i l.values)) ≡ with_values (grown l.k (arity l.inner)) (marked Outer l.values)
