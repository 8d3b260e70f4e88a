use Rattle.std.{proofs.Common.{◌≡◌, ◌-◌, ◌++◌, List, map, take, slice_get, Some}, specs.List.AllZip}
use Rattle.complex_index.specs.declared.indexed.Cochain.{Cochain}
use Rattle.op_matrix.specs.Tables.{IsPairColumn}
use Rattle.op_matrix.proofs.products.add_products.Given as goal

abbrev pub invariant-loop-j : goal.invariant-loop-j
invariant-loop-j g l =
    (pairs : List (Cochain g.row.P × Cochain g.row.P)) (z : Cochain g.row.P) → slice_get (g.B.Basis.classes l.basis l.product.a) (l.i - 1) ≡ Some z
    → AllZip (IsPairColumn {p = g.row.P} g.B.Basis.keeps l.index (g.B.Basis.classes l.basis) l.product) pairs l.initial.columns.items
    → AllZip (IsPairColumn {p = g.row.P} g.B.Basis.keeps l.index (g.B.Basis.classes l.basis) l.product) (pairs ++ map (λ (w : Cochain g.row.P). (z, w)) (take l.j (g.B.Basis.classes l.basis l.product.b))) l.columns.items
