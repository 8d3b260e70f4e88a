use Rattle.std.proofs.Common.{◌≡◌, ◌*◌, length, map, take}
use Rattle.op_matrix.specs.Columns.{values_of}
use Rattle.class_matrices.specs.Names.{Fits, sum_onto}
use Rattle.class_matrices.proofs.sums.with_columns.Given as goal

abbrev pub invariant-loop-column : goal.invariant-loop-column
invariant-loop-column g l =
    Fits g.row.P (values_of {p = g.row.P} l.columns) l.initial.sum.items
    → l.sum.items ≡ sum_onto g.row.P l.initial.sum.items (take (length l.yielded) (values_of {p = g.row.P} l.columns)) (take (length l.yielded) (map (λ c. l.by * c) l.coefficients))
