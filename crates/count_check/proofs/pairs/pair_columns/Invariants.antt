use Rattle.std.proofs.Common.{◌≡◌, ℕ, ◌+◌, ◌*◌, drop}
use Rattle.report.specs.declared.complex.ComplexPart.{ComplexPart}
use Rattle.report_law.specs.Names.{ranks_of}
use Rattle.certificate_law.specs.Names.{numbered, Asks}
use Rattle.certificate_walk.proofs.Names.{Leads}
use Rattle.count_check.specs.Columns.{with_numbers}
use Rattle.count_check.proofs.pairs.pair_columns.Given as goal

abbrev pub invariant-loop-place : goal.invariant-loop-place
invariant-loop-place l = record {
  counted : l.at ≡ l.before + 2 * l.place;
  walked : (c : ComplexPart) (p : ℕ) → ranks_of c ≡ l.ranks
      → Leads (Asks p 5) l.before (numbered (with_numbers c l.product) 0 l.product.columns) l.at (numbered (with_numbers c l.product) l.place (drop l.place l.product.columns));
}
