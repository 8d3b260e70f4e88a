use Rattle.std.proofs.Common.{◌≡◌, ℕ, ◌+◌, ◌*◌, drop, flat_map}
use Rattle.report.specs.declared.complex.ComplexPart.{ComplexPart}
use Rattle.report_law.specs.Names.{lines, ranks_of}
use Rattle.certificate_law.specs.Names.{cartan_stated, numbered, Asks}
use Rattle.certificate_walk.proofs.Names.{Leads}
use Rattle.count_check.specs.LineGroups.{group_lines}
use Rattle.count_check.proofs.lines.cartans.Given as goal

abbrev pub invariant-loop-place : goal.invariant-loop-place
invariant-loop-place l = record {
  counted : l.at ≡ l.before + 2 * l.place;
  walked : (c : ComplexPart) (p : ℕ) → lines p (ranks_of c) ≡ flat_map group_lines l.groups
      → Leads (Asks p 5) l.before (numbered (cartan_stated c) 0 l.listed) l.at (numbered (cartan_stated c) l.place (drop l.place l.listed));
}
