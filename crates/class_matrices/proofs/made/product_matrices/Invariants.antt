use Rattle.std.proofs.Common.{◌≡◌, map, take}
use Rattle.linear_law.specs.Names.{Each}
use Rattle.class_matrices.specs.Names.{IsProductOf}
use Rattle.class_matrices.proofs.made.product_matrices.Given as goal

abbrev pub invariant-loop-product : goal.invariant-loop-product
invariant-loop-product g l =
    (map (λ m. m.product) l.matrices.items ≡ take l.product-index l.product-items)
    × Each (IsProductOf {p = g.row.P} g.B.Basis.keeps l.index (g.B.Basis.classes l.basis)) l.matrices.items
