use Rattle.std.proofs.Common.{◌≡◌, ◌-◌, ◌++◌, drop, length}
use Rattle.composition_law.specs.Surjections.{spliced, IsRising}
use Rattle.surjection.proofs.composition.Splice.entries_at.Given as goal

-- what is written, and what is to come
abbrev pub invariant-loop-entry : goal.invariant-loop-entry
invariant-loop-entry l = record {
  written : l.entries.items ++ spliced l.self.at l.start (drop l.start l.inner) (drop l.entry-index l.entry-items) (drop l.places l.cut) ≡ spliced l.self.at 0 l.inner l.entry-items l.cut;
  rising : IsRising l.start (drop l.places l.cut) (length l.inner - 1);
}
