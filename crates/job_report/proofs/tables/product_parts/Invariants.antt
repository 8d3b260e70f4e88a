use Rattle.std.{proofs.Common.{map, take}, specs.List.AllZip}
use Rattle.job_report.specs.Parts.{IsListedProduct}
use Rattle.job_report.proofs.tables.product_parts.Given as goal

abbrev pub invariant-loop-matrix : goal.invariant-loop-matrix
invariant-loop-matrix g l = AllZip (IsListedProduct {p = g.row.P} g.B.Basis.keeps l.index (g.B.Basis.classes l.basis)) (take l.matrix-index (map (λ m. m.product) l.matrix-items)) l.parts.items
