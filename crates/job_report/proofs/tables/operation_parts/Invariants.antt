use Rattle.std.{proofs.Common.{map, take}, specs.List.AllZip}
use Rattle.job_report.specs.Parts.{IsListedOperation}
use Rattle.job_report.proofs.tables.operation_parts.Given as goal

abbrev pub invariant-loop-matrix : goal.invariant-loop-matrix
invariant-loop-matrix g l = AllZip (IsListedOperation {p = g.row.P} g.B.Basis.keeps l.index (g.B.Basis.classes l.basis)) (take l.matrix-index (map (λ m. m.block) l.matrix-items)) l.parts.items
