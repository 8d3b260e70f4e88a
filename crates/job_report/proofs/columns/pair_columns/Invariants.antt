use Rattle.std.{proofs.Common.{◌≡◌, length, map, take}, specs.List.AllZip}
use Rattle.report_law.specs.Names.{numbers_of, unnumbered}
use Rattle.job_report.specs.Listed.{IsListedColumn}
use Rattle.job_report.proofs.columns.pair_columns.Given as goal

abbrev pub invariant-loop-pair : goal.invariant-loop-pair
invariant-loop-pair g l = record {
  numbers : map numbers_of l.listed.items ≡ take (length l.yielded) l.pairs;
  columns : AllZip (IsListedColumn {p = g.row.P} g.B.Basis.keeps l.index l.n) (take (length l.yielded) l.columns) (map unnumbered l.listed.items);
}
