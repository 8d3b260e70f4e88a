use Rattle.std.proofs.Common.{◌≡◌, ℕ, ◌+◌, drop, sum_by}
use Rattle.report.specs.declared.complex.ComplexPart.{ComplexPart}
use Rattle.certificate_law.specs.Names.{degree_stated, numbered, Asks}
use Rattle.certificate_walk.{proofs.Names.Leads, specs.Names.degree_lines}
use Rattle.count_check.specs.Totals.{IsIndexed}
use Rattle.count_check.proofs.degrees.degrees.Given as goal

abbrev pub invariant-loop-n : goal.invariant-loop-n
invariant-loop-n l = record {
  counted : l.at + sum_by degree_lines (drop l.n l.degrees) ≡ l.before + sum_by degree_lines l.degrees;
  walked : (c : ComplexPart) (p : ℕ) → IsIndexed l.index c → c.degrees ≡ l.degrees
      → Leads (Asks p 5) l.before (numbered (degree_stated c) 0 l.degrees) l.at (numbered (degree_stated c) l.n (drop l.n l.degrees));
}
