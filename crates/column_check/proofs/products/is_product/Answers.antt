use Rattle.std.proofs.{Common.{◌+◌, Bool, ℕ, IsTrue, List, subst, ◌↔◌}, lemmas.Result.IfOk-weaker}
use Rattle.simplicial_law.specs.Names.{Chain}
use Rattle.may_steenrod.specs.Cochains.{cochain_in}
use Rattle.column_check.{specs.Listings.IsColumnSum, proofs.ColumnLemmas.product-tells}
use Rattle.column_check.proofs.products.is_product.Goals as goal

pub returns : goal.returns
returns g c =
    let p : ℕ = g.row.P in
    let part = c.args.listing.now.part.now in
    let levels = c.args.listing.now.index.now in
    let n : ℕ = c.args.part.now.a + c.args.part.now.b in
    let R : List ℕ → Chain → Bool → Type 0 = λ vs ts b. (IsTrue b ↔ IsColumnSum part n p (cochain_in levels n c.in_ok-product.product.row) vs ts) in
    IfOk-weaker c.is_column.result (R c.as_slice-values.result.now c.as_slice-primitive.result.now) _
    (λ b h. product-tells p part levels c.args.part.now c.args.column.now c.class-left.result.now c.class.result.now c.in_ok-product.product b c.requires.of.index c.class-left.ensures c.class.ensures c.in_ok-product.ensures.values
    (subst (λ (vs : List ℕ). R vs c.args.column.now.primitive b) c.as_slice-values.ensures (subst (λ (ts : Chain). R c.as_slice-values.result.now ts b) c.as_slice-primitive.ensures h)))
    c.is_column.ensures
