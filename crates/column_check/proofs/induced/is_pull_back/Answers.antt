use Rattle.std.proofs.{Common.{Bool, ℕ, IsTrue, List, get_or, refl, subst, ◌↔◌}, lemmas.Result.IfOk-weaker}
use Rattle.simplicial_law.specs.Names.{Chain}
use Rattle.may_steenrod.specs.Cochains.{cochain_in}
use Rattle.column_check.{specs.Listings.IsColumnSum, proofs.ColumnLemmas.pull_back-tells}
use Rattle.column_check.proofs.induced.is_pull_back.Goals as goal

pub returns : goal.returns
returns g c =
    let p : ℕ = g.row.P in
    let source = c.args.from.now.part.now in
    let levels = c.args.from.now.index.now in
    let x = c.args.part.now in
    let y = c.args.column.now in
    let R : List ℕ → Chain → Bool → Type 0 = λ vs ts b. (IsTrue b ↔ IsColumnSum source x.q p (cochain_in levels x.q c.in_ok-image.image.row) vs ts) in
    IfOk-weaker c.is_column.result (R c.as_slice-values.result.now c.as_slice-primitive.result.now) _
    (λ b h m is. pull_back-tells p source c.args.to.now.part.now levels c.args.to.now.index.now m x x.q c.args.k y (λ (v : ℕ). get_or c.args.map.now v 0) c.class.result.now c.in_ok-image.image b c.requires.from.index refl is c.class.ensures
    c.in_ok-image.ensures.values
    (subst (λ (vs : List ℕ). R vs y.primitive b) c.as_slice-values.ensures (subst (λ (ts : Chain). R c.as_slice-values.result.now ts b) c.as_slice-primitive.ensures h)))
    c.is_column.ensures
