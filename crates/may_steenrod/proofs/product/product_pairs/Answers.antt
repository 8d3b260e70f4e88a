use Rattle.std.proofs.Common.{◌≡◌, ◌∙◌, ◌<◌, ◌≤◌, ℕ, List, ap, arith, get_or, length, lit<, subst, sym, take_all, suc}
use Rattle.linear_law.proofs.Names.{each_get_or}
use Rattle.sparse_rows.specs.Rows.{IsBelow}
use Rattle.complex_index.specs.Names.{level}
use Rattle.may_steenrod.{specs.Cochains.cochain_in, specs.Fronts.{AddsFront, AddsFronts}, proofs.FrontLemmas.fronts-more, proofs.PlaceLemmas.simplex-size}
use Rattle.may_steenrod.proofs.product.product_pairs.Goals as goal

pub add_front-requires : goal.add_front-requires
add_front-requires g c =
    let levels = c.args.beta.now.index.now in
    let q : ℕ = c.args.alpha.now.degree in
    let n : ℕ = length (level levels q) in
    let e : ℕ × ℕ = c.entry-item.result in
    let inside = each_get_or (λ (t : ℕ × ℕ). t.0 < n) c.as_slice-entry-items.result.now c.loop-entry.entry-index e c.loop-entry-test.true (subst (IsBelow n) (sym c.as_slice-entry-items.ensures.same) c.requires.inside) in
    let size = simplex-size levels c.requires.complex.facets q e.0 c.requires.complex.index (subst (λ (t : ℕ × ℕ). t.0 < n) (sym c.entry-item.is) inside) in
    let long : length c.simplex-front.result.now ≡ suc q = ap (λ (s : List ℕ). length s) c.simplex-front.ensures ∙ size in
    (lit< tt, (lit< tt, (c.requires.prime, (c.requires.complex, (omega (arith, long), omega (arith, long, c.requires.degree))))))

pub loop-entry-preserved : goal.loop-entry-preserved
loop-entry-preserved g c =
    let p : ℕ = g.row.P in
    let on = c.args.beta.now in
    let here = level on.index.now c.args.alpha.now.degree in
    let above = level on.index.now c.args.degree in
    let b : List ℕ → ℕ = cochain_in on.index.now on.cochain.now.degree on.cochain.now.row in
    let row : List (ℕ × ℕ) = c.args.alpha.now.row in
    let i : ℕ = c.loop-entry.entry-index in
    let e : ℕ × ℕ = c.entry-item.result in
    let same = c.as_slice-entry-items.ensures.same in
    let lt : i < length row = subst (λ (xs : List (ℕ × ℕ)). i < length xs) same c.loop-entry-test.true in
    fronts-more p here above b row c.loop-entry.pairs.items c.add_front.new.pairs.items i e lt (c.entry-item.is ∙ ap (λ (xs : List (ℕ × ℕ)). get_or xs i e) same) c.loop-entry.invariant
    (subst (λ (f : List ℕ). AddsFront p above b f e.1 c.loop-entry.pairs.items c.add_front.new.pairs.items) c.simplex-front.ensures c.in_ok-add_front.ensures)

pub returns-clause-fronts : goal.returns-clause-fronts
returns-clause-fronts g c =
    let on = c.args.beta.now in
    let row : List (ℕ × ℕ) = c.args.alpha.now.row in
    let i : ℕ = c.loop-entry.entry-index in
    let done = subst (λ (xs : List (ℕ × ℕ)). length xs ≤ i) c.as_slice-entry-items.ensures.same c.loop-entry-test.false in
    subst (λ (xs : List (ℕ × ℕ)). AddsFronts g.row.P (level on.index.now c.args.alpha.now.degree) (level on.index.now c.args.degree) (cochain_in on.index.now on.cochain.now.degree on.cochain.now.row) xs c.loop-entry.pairs.items) (take_all i row done) c.loop-entry.invariant
