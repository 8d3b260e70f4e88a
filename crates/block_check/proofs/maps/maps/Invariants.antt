use Rattle.std.proofs.Common.{◌≡◌, ℕ, ◌+◌, [], drop, sum_by, take}
use Rattle.certificate_law.specs.Names.{Asks, behind, map_stated}
use Rattle.certificate_walk.{specs.Names.map_lines, proofs.Names.Leads}
use Rattle.block_check.proofs.maps.maps.Given as goal

abbrev pub invariant-loop-place : goal.invariant-loop-place
invariant-loop-place l = record {
  counted : l.at + sum_by map_lines (drop l.place l.parts) ≡ l.before + sum_by map_lines l.parts;
  walked : (p : ℕ) → Leads (Asks p 1) l.before (behind (map_stated l.complexes) [] l.parts) l.at (behind (map_stated l.complexes) (take l.place l.parts) (drop l.place l.parts));
}
