use Rattle.std.proofs.{Common.{Bool, ℕ, IsTrue, List, subst, ◌↔◌}, lemmas.Result.IfOk-weaker}
use Rattle.simplicial_law.specs.Names.{Chain}
use Rattle.may_steenrod.specs.Cochains.{cochain_in}
use Rattle.column_check.{specs.Listings.IsColumnSum, proofs.ColumnLemmas.operation-tells}
use Rattle.column_check.proofs.operations.is_operation.Goals as goal

pub returns : goal.returns
returns g c =
    let p : ℕ = g.row.P in
    let part = c.args.listing.now.part.now in
    let levels = c.args.listing.now.index.now in
    let x = c.args.part.now in
    let y = c.args.column.now in
    let R : List ℕ → Chain → Bool → Type 0 = λ vs ts b. (IsTrue b ↔ IsColumnSum part x.to p (cochain_in levels x.to c.in_ok-image.image.row) vs ts) in
    IfOk-weaker c.is_column.result (R c.as_slice-values.result.now c.as_slice-primitive.result.now) _
    (λ b h. operation-tells p part levels x c.args.k y c.op_of.result c.class-class.result.now c.in_ok-image.image b c.requires.prime c.requires.of.index c.requires.ready.defined c.requires.ready.target c.op_of.ensures c.class-class.ensures
    (c.in_ok-image.ensures.operation part.facets c.requires.of.index)
    (subst (λ (vs : List ℕ). R vs y.primitive b) c.as_slice-values.ensures (subst (λ (ts : Chain). R c.as_slice-values.result.now ts b) c.as_slice-primitive.ensures h)))
    c.is_column.ensures
