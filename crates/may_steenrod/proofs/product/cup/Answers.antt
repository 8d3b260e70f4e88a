use Rattle.std.proofs.Common.{◌∙◌, ◌+◌, ◌%◌, ℕ, List, ap, length, refl, subst, sym}
use Rattle.sparse_rows.specs.Rows.{IsBelow, value_in}
use Rattle.complex_index.specs.Names.{level}
use Rattle.may_steenrod.{specs.Cochains.cochain_in, specs.Fronts.AddsFronts, proofs.OnLemmas.is_on, proofs.OperationLemmas.{on-same, product-closed, product-values, values-same}}
use Rattle.may_steenrod.proofs.product.cup.Goals as goal

pub returns-clause-values : goal.returns-clause-values
returns-clause-values g c =
    let p : ℕ = g.row.P in
    let index = c.args.index.now in
    let alpha = c.args.alpha.now in
    let beta = c.args.beta.now in
    let second = c.new-second in
    let n : ℕ = alpha.degree + beta.degree in
    let pairs = c.in_ok-pairs.pairs.items in
    let same = c.deref.ensures.value in
    let adds = subst (λ (b : List ℕ → ℕ). AddsFronts p (level index alpha.degree) (level index n) b alpha.row pairs)
    (values-same p index index second.result.cochain.now beta refl second.ensures.cochain)
    (subst (λ (l : List (List (List ℕ))). AddsFronts p (level l alpha.degree) (level l n) (cochain_in l second.result.cochain.now.degree second.result.cochain.now.row) alpha.row pairs) second.ensures.index c.in_ok-pairs.ensures.fronts) in
    product-values p index alpha.degree beta.degree alpha.row beta.row c.requires.prime second.ensures.complex.facets pairs c.in_ok-from_pairs.field-0 second.ensures.complex.index
    (is_on p index alpha.degree alpha.row c.requires.prime second.ensures.complex c.in_ok-pairs.ensures.row c.requires.alpha_inside)
    (on-same p second.result.index.now index second.result.cochain.now beta second.ensures.index second.ensures.cochain second.result.sound)
    c.requires.alpha_inside adds (λ x. c.in_ok-from_pairs.ensures.sum x ∙ ap (λ (xs : List (ℕ × ℕ)). value_in xs x % p) same)
    (c.in_ok-from_pairs.ensures.below (length (level index n)) (subst (IsBelow (length (level index n))) (sym same) adds.below))

pub returns-clause-closed : goal.returns-clause-closed
returns-clause-closed g c =
    product-closed g.row.P c.args.index.now c.args.alpha.now.degree c.args.beta.now.degree c.args.alpha.now.row c.args.beta.now.row c.requires.prime c.in_ok-from_pairs.field-0 (returns-clause-values g c)
