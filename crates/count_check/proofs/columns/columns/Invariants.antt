use Rattle.std.proofs.Common.{◌≡◌, ℕ, ◌+◌, ◌*◌, drop}
use Rattle.report.specs.declared.columns.Column.{Column}
use Rattle.certificate_law.specs.Names.{Stated, numbered, Asks}
use Rattle.certificate_walk.proofs.Names.{Leads}
use Rattle.count_check.specs.Columns.{AsksColumns, with_primitive}
use Rattle.count_check.proofs.columns.columns.Given as goal

abbrev pub invariant-loop-place : goal.invariant-loop-place
invariant-loop-place l = record {
  counted : l.at ≡ l.before + 2 * l.place;
  walked : (p : ℕ) (line : ℕ → Column → Stated) → AsksColumns p line l.columns l.rows
      → Leads (Asks p 5) l.before (numbered (with_primitive line) 0 l.listed) l.at (numbered (with_primitive line) l.place (drop l.place l.listed));
}
