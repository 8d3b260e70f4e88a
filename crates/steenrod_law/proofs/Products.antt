-- The cup product on cohomology.
use Rattle.std.proofs.{Common.{◌≤◌, length, ◌≡◌, ℕ, suc, ◌+◌, List, [], ◌∷◌, refl, ◌∙◌, ap, arith, ℤ, pos, ◌+ℤ◌, ◌*ℤ◌}, Math.IntN.*ℤ-zero, lemmas.Int.ints}
use Rattle.interval_cut_law.{proofs.BoundaryLaws.{degeneracy_law, product_normalized}, proofs.CochainLaws.cut_sum-sum, proofs.Degeneracy.product_rule, specs.Names.{cut_sum, value_product}}
use Rattle.signed_sum.{proofs.Names.{add-mul, mul-add, signed-parity, signed-signed, signed-zero}, specs.Names.signed}
use Rattle.simplicial_law.{proofs.Names.{CongruentInt-signed, CongruentInt-sum, CongruentInt_from, CongruentInt_of, CongruentInt_refl, CongruentInt_sym, CongruentInt_trans}, specs.Names.{CongruentInt, integral_coboundary}}
use Rattle.steenrod_law.proofs.{AdditiveMaps.{adds-signed, coboundary-sum}, Degrees.value-size, Forms.{HasDegreeBelow, IsCochain, IsFaceClosed, IsIntegralCocycle, IsWeakFace, cup}, ValuesOnFaces.{value-at, value-none-at}}
use Rattle.surjection_law.specs.Names.{IsOnto}

onto : IsOnto 2 (1 ∷ 2 ∷ [])
onto v = refl

-- the product is bilinear

left-part : (a c b : List ℕ → ℤ) (fs : List (List ℕ)) → value_product ((λ f. a f +ℤ c f) ∷ b ∷ []) fs ≡ value_product (a ∷ b ∷ []) fs +ℤ value_product (c ∷ b ∷ []) fs
left-part a c b [] = refl
left-part a c b (f ∷ fs) = add-mul (a f) (c f) (value_product (b ∷ []) fs)

right-part : (a b c : List ℕ → ℤ) (fs : List (List ℕ)) → value_product (a ∷ (λ f. b f +ℤ c f) ∷ []) fs ≡ value_product (a ∷ b ∷ []) fs +ℤ value_product (a ∷ c ∷ []) fs
right-part a b c [] = refl
right-part a b c (f ∷ []) = let z = *ℤ-zero (a f) in omega (arith, ints)
right-part a b c (f ∷ g ∷ fs) = ap (λ z. a f *ℤ z) (add-mul (b g) (c g) (value_product [] fs)) ∙ mul-add (a f) (b g *ℤ value_product [] fs) (c g *ℤ value_product [] fs)

pub cup-left : (b : List ℕ → ℤ) (s : List ℕ) (a c : List ℕ → ℤ) → cup (λ f. a f +ℤ c f) b s ≡ cup a b s +ℤ cup c b s
cup-left b s a c = ap (λ h. cut_sum h 2 (1 ∷ 2 ∷ []) s) (λ i fs. left-part a c b fs i) ∙ cut_sum-sum 2 (1 ∷ 2 ∷ []) s (value_product (a ∷ b ∷ [])) (value_product (c ∷ b ∷ []))

pub cup-right : (a : List ℕ → ℤ) (s : List ℕ) (b c : List ℕ → ℤ) → cup a (λ f. b f +ℤ c f) s ≡ cup a b s +ℤ cup a c s
cup-right a s b c = ap (λ h. cut_sum h 2 (1 ∷ 2 ∷ []) s) (λ i fs. right-part a b c fs i) ∙ cut_sum-sum 2 (1 ∷ 2 ∷ []) s (value_product (a ∷ b ∷ [])) (value_product (a ∷ c ∷ []))

pub cup-mod : (p : ℕ) (a b c e : List ℕ → ℤ) (s : List ℕ) → 1 ≤ length s → ((f : List ℕ) → IsWeakFace f s → CongruentInt p (a f) (c f)) → ((f : List ℕ) → IsWeakFace f s → CongruentInt p (b f) (e f)) → CongruentInt p (cup a b s) (cup c e s)
cup-mod p a b c e s hs x y = value-at p 2 (1 ∷ 2 ∷ []) s (a ∷ b ∷ []) (c ∷ e ∷ []) (omega arith) hs (x, (y, tt))

-- degrees

pub cup-degree : (q k m : ℕ) (a b : List ℕ → ℤ) → IsCochain q a → IsCochain k b → m ≡ suc (q + k) → HasDegreeBelow 1 m (cup a b)
cup-degree q k m a b x y e = record {
  other = λ s hs ne. value-size 2 (1 ∷ 2 ∷ []) s (q ∷ k ∷ []) (a ∷ b ∷ []) onto (omega arith) hs (x.degree, (y.degree, tt)) refl (λ h. ne (omega (arith, h)));
  plain = λ s r. degeneracy_law.simplices (value_product (a ∷ b ∷ [])) 2 (1 ∷ 2 ∷ []) s (product_normalized (a ∷ b ∷ []) (x.plain, (y.plain, tt))) onto (omega arith) r;
}

-- the product of cocycles is closed
pub cup-closed : (K : List ℕ → Type 0) (p q k : ℕ) (a b : List ℕ → ℤ) (s : List ℕ) → IsFaceClosed K → IsIntegralCocycle K p q a → IsIntegralCocycle K p k b → K s → 1 ≤ length s →
    CongruentInt p (integral_coboundary (cup a b) s) (pos 0)
cup-closed K p q k a b s fc ka kb ks hs =
    CongruentInt_trans (CongruentInt_of (product_rule q k a b s hs ka.cochain.degree kb.cochain.degree))
    (CongruentInt_trans (CongruentInt-sum
    (value-none-at p 2 (1 ∷ 2 ∷ []) s [] (b ∷ []) (integral_coboundary a) (omega arith) hs (λ f v. ka.closed f (fc f s v ks)))
    (CongruentInt-signed q (value-none-at p 2 (1 ∷ 2 ∷ []) s (a ∷ []) [] (integral_coboundary b) (omega arith) hs (λ f v. kb.closed f (fc f s v ks)))))
    (CongruentInt_of (let z = signed-zero q in omega (arith, ints))))

-- products with a coboundary

pub left-bound : (K : List ℕ → Type 0) (p n k : ℕ) (y b : List ℕ → ℤ) (s : List ℕ) → IsFaceClosed K → IsCochain n y → IsIntegralCocycle K p k b → K s → 1 ≤ length s →
    CongruentInt p (cup (integral_coboundary y) b s) (integral_coboundary (cup y b) s)
left-bound K p n k y b s fc cy kb ks hs =
    let e = product_rule n k y b s hs cy.degree kb.cochain.degree in
    let z = CongruentInt-signed n (value-none-at p 2 (1 ∷ 2 ∷ []) s (y ∷ []) [] (integral_coboundary b) (omega arith) hs (λ f v. kb.closed f (fc f s v ks))) in
    let z0 = signed-zero n in
    CongruentInt_from (CongruentInt_sym z) (omega (arith, ints))

pub right-bound : (K : List ℕ → Type 0) (p q m : ℕ) (a v : List ℕ → ℤ) (s : List ℕ) → IsFaceClosed K → IsIntegralCocycle K p q a → IsCochain m v → K s → 1 ≤ length s →
    CongruentInt p (cup a (integral_coboundary v) s) (integral_coboundary (λ t. signed q (cup a v t)) s)
right-bound K p q m a v s fc ka cv ks hs =
    let x : ℤ = cup a (integral_coboundary v) s in
    let e = adds-signed (λ b. integral_coboundary b s) (coboundary-sum s) q (cup a v) ∙ ap (signed q) (product_rule q m a v s hs ka.cochain.degree cv.degree) in
    let z = CongruentInt-signed q (CongruentInt-sum (value-none-at p 2 (1 ∷ 2 ∷ []) s [] (v ∷ []) (integral_coboundary a) (omega arith) hs (λ f w. ka.closed f (fc f s w ks))) (CongruentInt_refl (signed q x))) in
    let i : pos 0 +ℤ signed q x ≡ signed q x = omega (arith, ints) in
    CongruentInt_sym
    (CongruentInt_trans (CongruentInt_of e) (CongruentInt_trans z (CongruentInt_of (ap (signed q) i ∙ signed-signed q q x ∙ signed-parity (q + q) 0 x (omega arith)))))
