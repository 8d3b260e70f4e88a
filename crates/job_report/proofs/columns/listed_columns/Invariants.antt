use Rattle.std.{proofs.Common.take, specs.List.AllZip}
use Rattle.job_report.specs.Listed.{IsListedColumn}
use Rattle.job_report.proofs.columns.listed_columns.Given as goal

abbrev pub invariant-loop-column : goal.invariant-loop-column
invariant-loop-column g l = AllZip (IsListedColumn {p = g.row.P} g.B.Basis.keeps l.index l.n) (take l.column-index l.columns) l.listed.items
