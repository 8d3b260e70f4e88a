use Rattle.std.proofs.Common.{◌≡◌, ◌++◌, drop}
use Rattle.composition_law.specs.Surjections.{lifted, with_values}
use Rattle.surjection.specs.Names.{marked, Inner}
use Rattle.surjection.proofs.composition.inner_entries.Given as goal

abbrev pub invariant-loop-i : goal.invariant-loop-i
invariant-loop-i l = l.entries.items ++ with_values (lifted l.k) (marked Inner (drop l.i l.values)) ≡ with_values (lifted l.k) (marked Inner l.values)
