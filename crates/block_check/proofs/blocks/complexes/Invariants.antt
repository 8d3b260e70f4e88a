use Rattle.std.proofs.Common.{◌≡◌, ℕ, ◌+◌, [], drop, map, sum_by, take}
use Rattle.certificate_law.specs.Names.{Asks, itself, behind, complex_stated}
use Rattle.certificate_walk.{specs.Names.complex_lines, proofs.Names.Leads}
use Rattle.block_check.proofs.blocks.complexes.Given as goal

abbrev pub invariant-loop-place : goal.invariant-loop-place
invariant-loop-place l = record {
  counted : l.at + sum_by complex_lines (drop l.place l.parts) ≡ l.before + sum_by complex_lines l.parts;
  kept : l.blocks.items ≡ map itself (take l.place l.parts);
  walked : (p : ℕ) → Leads (Asks p 1) l.before (behind complex_stated [] l.parts) l.at (behind complex_stated (take l.place l.parts) (drop l.place l.parts));
}
