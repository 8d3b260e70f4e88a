use Rattle.std.proofs.Common.{◌≡◌, ℕ, ◌+◌, drop, sum_by}
use Rattle.report.specs.declared.{complex.ComplexPart.ComplexPart, map.MapPart.MapPart}
use Rattle.report_law.specs.Names.{induced_degrees, ranks_of}
use Rattle.certificate_law.specs.Names.{induced_stated, numbered, Asks}
use Rattle.certificate_walk.{proofs.Names.Leads, specs.Names.induced_lines}
use Rattle.count_check.proofs.maps.blocks.Given as goal

abbrev pub invariant-loop-place : goal.invariant-loop-place
invariant-loop-place l = record {
  counted : l.at + sum_by induced_lines (drop l.place l.listed) ≡ l.before + sum_by induced_lines l.listed;
  walked : (c d : ComplexPart) (m : MapPart) (p : ℕ) → ranks_of c ≡ l.from → ranks_of d ≡ l.to → induced_degrees (ranks_of c) (ranks_of d) ≡ l.live
      → Leads (Asks p 5) l.before (numbered (induced_stated c d m) 0 l.listed) l.at (numbered (induced_stated c d m) l.place (drop l.place l.listed));
}
