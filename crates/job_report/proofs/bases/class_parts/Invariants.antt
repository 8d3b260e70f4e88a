use Rattle.std.{proofs.Common.[], specs.List.AllZip}
use Rattle.signed_sum.specs.Names.{numbers_from}
use Rattle.cohomology.specs.Names.{IsPivotTable}
use Rattle.job_report.specs.Parts.{IsClassPart}
use Rattle.job_report.proofs.bases.class_parts.Given as goal

abbrev pub invariant-loop-n : goal.invariant-loop-n
invariant-loop-n g l = AllZip (IsClassPart g.row.P l.index) (numbers_from 0 l.n) l.parts.items × IsPivotTable g.row.P l.index [] l.n l.pivots
