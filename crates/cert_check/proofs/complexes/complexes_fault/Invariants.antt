use Rattle.std.proofs.Common.{◌≡◌, ◌+◌, [], drop, sum_by, take}
use Rattle.certificate_law.specs.Names.{Asks, behind, complex_stated}
use Rattle.certificate_walk.{specs.Names.complex_lines, proofs.Names.Leads}
use Rattle.cert_check.proofs.complexes.complexes_fault.Given as goal

abbrev pub invariant-loop-place : goal.invariant-loop-place
invariant-loop-place g l = record {
  counted : l.at + sum_by complex_lines (drop l.place l.parts) ≡ l.before + sum_by complex_lines l.parts;
  walked : Leads (Asks g.row.P l.condition) l.before (behind complex_stated [] l.parts) l.at (behind complex_stated (take l.place l.parts) (drop l.place l.parts));
}
