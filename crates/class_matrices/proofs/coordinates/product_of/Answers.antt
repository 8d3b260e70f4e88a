use Rattle.std.proofs.Common.{◌∙◌, ◌+◌, ℕ, ap, refl}
use Rattle.linear_law.specs.Names.{copies}
use Rattle.class_matrices.proofs.CoordinateLemmas.{product-is}
use Rattle.class_matrices.proofs.coordinates.product_of.Goals as goal

pub returns-clause-product : goal.returns-clause-product
returns-clause-product g c = λ facets levels z w on hz hw.
    let p : ℕ = g.row.P in
    let first = c.args.first.now in
    let second = c.args.second.now in
    product-is p c.requires.prime g.B.Basis.keeps facets levels (g.B.Basis.classes c.args.basis.now) c.args.matrices.now on first second (record { degree = first.degree + second.degree; values = c.in_ok-with_products.field-0 }) z w
    c.product-columns.result.now c.in_ok-zeros.zeros.items c.deref.result.now c.deref-2.result.now c.product-columns.ensures refl
    (c.in_ok-zeros.ensures ∙ ap (λ (k : ℕ). copies k 0) c.rank.ensures) c.deref.ensures.value c.deref-2.ensures.value c.in_ok-with_products.ensures hz hw
