use Rattle.std.proofs.Common.{◌≡◌, take}
use Rattle.composition_law.specs.Surjections.{values_of}
use Rattle.surjection.proofs.composition.copy_values.Given as goal

abbrev pub invariant-loop-entry : goal.invariant-loop-entry
invariant-loop-entry l = l.values.items ≡ values_of (take l.entry-index l.entries)
