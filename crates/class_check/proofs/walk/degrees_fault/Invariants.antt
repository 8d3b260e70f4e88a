use Rattle.std.proofs.Common.{◌≡◌, ◌+◌, drop, sum_by}
use Rattle.complex_index.specs.Names.{IsIndexOf}
use Rattle.report.specs.declared.complex.ComplexPart.{ComplexPart}
use Rattle.certificate_law.specs.Names.{Asks, degree_stated, numbered}
use Rattle.certificate_walk.{specs.Names.degree_lines, proofs.Names.Leads}
use Rattle.class_check.specs.Questions.{AreReady, condition_of}
use Rattle.class_check.proofs.walk.degrees_fault.Given as goal

abbrev pub invariant-loop-n : goal.invariant-loop-n
invariant-loop-n g l = record {
  counted : l.at + sum_by degree_lines (drop l.n l.degrees) ≡ l.before + sum_by degree_lines l.degrees;
  walked : (c : ComplexPart) → IsIndexOf c.facets l.index → c.degrees ≡ l.degrees → AreReady g.row.P l.question (numbered (degree_stated c) 0 l.degrees)
      → Leads (Asks g.row.P (condition_of l.question)) l.before (numbered (degree_stated c) 0 l.degrees) l.at (numbered (degree_stated c) l.n (drop l.n l.degrees));
}
