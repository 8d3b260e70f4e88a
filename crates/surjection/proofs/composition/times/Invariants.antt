use Rattle.std.proofs.Common.{◌≡◌, ◌≤◌, ◌+◌, drop}
use Rattle.surjection_law.specs.Names.{multiplicity}
use Rattle.surjection.proofs.composition.times.Given as goal

abbrev pub invariant-loop-entry : goal.invariant-loop-entry
invariant-loop-entry l = (l.count + multiplicity l.value (drop l.entry-index l.values) ≡ multiplicity l.value l.values) × (l.count ≤ l.entry-index)
