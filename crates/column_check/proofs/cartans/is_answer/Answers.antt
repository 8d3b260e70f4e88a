use Rattle.std.proofs.{Common.{Bool, ℕ, IsTrue, subst, sym, ◌↔◌}, lemmas.Result.IfOk-weaker}
use Rattle.simplicial_law.specs.Names.{Chain}
use Rattle.may_steenrod.specs.Cochains.{cochain_in}
use Rattle.report.specs.declared.columns.CartanAnswer.{CartanAnswer}
use Rattle.certificate_law.specs.Names.{IsRightAnswer}
use Rattle.column_check.{specs.Listings.{IsBoundOf, PairsWithCycle}, proofs.CycleLemmas.{no-tells, yes-tells}}
use Rattle.column_check.proofs.cartans.is_answer.Goals as goal

pub returns-in-Yes : goal.returns-in-Yes
returns-in-Yes g c =
    let p : ℕ = g.row.P in
    let listed = c.args.listing.now.part.now in
    let levels = c.args.listing.now.index.now in
    let part = c.args.part.now in
    let r = c.in_ok-made.made in
    let R : Chain → Bool → Type 0 = λ ts b. (IsTrue b ↔ IsBoundOf listed.facets r.degree p (cochain_in levels r.degree r.row) ts) in
    IfOk-weaker c.is_bounded.result (R c.as_slice.result.now) _
    (λ b h. subst (λ (a : CartanAnswer). (IsTrue b ↔ IsRightAnswer listed p part a)) (sym c.in-Yes.is)
    (yes-tells p c.requires.prime listed levels c.requires.of.index part c.line_of.result c.line_of.ensures c.requires.ready.defined c.class-x.result.now c.class-y.result.now r c.class-x.ensures c.class-y.ensures c.in_ok-made.ensures
    c.in-Yes.primitive b (subst (λ (ts : Chain). R ts b) c.as_slice.ensures h)))
    c.is_bounded.ensures

pub returns : goal.returns
returns g c =
    let p : ℕ = g.row.P in
    let listed = c.args.listing.now.part.now in
    let levels = c.args.listing.now.index.now in
    let part = c.args.part.now in
    let r = c.in_ok-made.made in
    let R : Chain → Bool → Type 0 = λ ts b. (IsTrue b ↔ PairsWithCycle listed.facets r.degree p (cochain_in levels r.degree r.row) c.in-No.value ts) in
    IfOk-weaker c.is_detected.result (R c.as_slice-in-No.result.now) _
    (λ b h. subst (λ (a : CartanAnswer). (IsTrue b ↔ IsRightAnswer listed p part a)) (sym c.in-No.is)
    (no-tells p c.requires.prime listed levels c.requires.of.index part c.line_of.result c.line_of.ensures c.requires.ready.defined c.class-x.result.now c.class-y.result.now r c.class-x.ensures c.class-y.ensures c.in_ok-made.ensures
    c.in-No.value c.in-No.cycle b (subst (λ (ts : Chain). R ts b) c.as_slice-in-No.ensures h)))
    c.is_detected.ensures
