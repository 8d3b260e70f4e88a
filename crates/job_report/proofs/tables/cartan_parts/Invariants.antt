use Rattle.std.{proofs.Common.take, specs.List.AllZip}
use Rattle.job_report.specs.Parts.{IsListedLine}
use Rattle.job_report.proofs.tables.cartan_parts.Given as goal

abbrev pub invariant-loop-line : goal.invariant-loop-line
invariant-loop-line g l = AllZip (IsListedLine {p = g.row.P} g.B.Basis.keeps l.index (g.B.Basis.classes l.basis)) (take l.line-index l.line-items) l.parts.items
