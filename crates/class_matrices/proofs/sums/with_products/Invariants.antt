use Rattle.std.proofs.Common.{drop}
use Rattle.op_matrix.specs.Columns.{values_of}
use Rattle.steenrod_law.specs.Names.{coefficient_products}
use Rattle.class_matrices.{specs.Names.{Fits, sum_onto}, proofs.SumLemmas.IsRest}
use Rattle.class_matrices.proofs.sums.with_products.Given as goal

abbrev pub invariant-loop-by : goal.invariant-loop-by
invariant-loop-by g l =
    Fits g.row.P (values_of {p = g.row.P} l.columns) l.initial.sum.items
    → IsRest g.row.P (sum_onto g.row.P l.initial.sum.items (values_of {p = g.row.P} l.columns) (coefficient_products l.first l.second)) l.sum.items (values_of {p = g.row.P} l.rest) (drop l.by-index l.first) l.second
