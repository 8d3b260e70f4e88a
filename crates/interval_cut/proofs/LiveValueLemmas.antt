-- Cuts that are not live give 0 on cochains of the degree.
use Rattle.std.{proofs.Common.{◌≡◌, ℕ, zero, suc, ◌%◌, ◌/◌, ◌<◌, Bool, true, false, cond, eqb, ◌==◌, List, [], ◌∷◌, map, length, refl, sym, ◌∙◌, ap, arith, inl, inr, eqb-true, eq-eqb, ℤ, pos, ◌+ℤ◌, ◌*ℤ◌, ◌&&◌, not}, specs.List.filter, proofs.Math.IntN.{zero-*ℤ, *ℤ-zero}, proofs.lemmas.Bool.{and_cases, false≢true, or_cases, or_left, or_right}, proofs.lemmas.Int.ints, proofs.lemmas.List.length-map}
use Rattle.linear_law.specs.Names.{IsAscending}
use Rattle.signed_sum.{specs.Names.{is_degenerate, numbers_from, signed, total}, proofs.Names.{is_degenerate-under, signed-zero}}
use Rattle.simplicial_law.proofs.Names.{CongruentInt-sum, CongruentInt_of, CongruentInt_refl, CongruentInt_trans}
use Rattle.surjection_law.specs.Names.{arity}
use Rattle.interval_cut_law.specs.Names.{cut_face, cut_faces, cuts, sign_exponent, vertex_at, is_live, value_product}
use Rattle.interval_cut.{specs.Names.{IsOfDegree, IsPartOfSum, LiveWalk, is_live_cut, live_start, live_top, by_mask, signed_product}, proofs.ProductLemmas.remainder}

not_ascending : (f : List ℕ) → is_degenerate f ≡ true → IsAscending f → ⊥
not_ascending [] d h = false≢true d
not_ascending (x ∷ []) d h = false≢true d
not_ascending (x ∷ y ∷ f) d h = elim (or_cases (eqb x y) (is_degenerate (y ∷ f)) d) [
  | inl e ↦ let same : x ≡ y = eqb-true x y e in let up : x < y = h.0.0 in absurd (omega arith)
  | inr e ↦ not_ascending (y ∷ f) e h.1
]

-- a face that is no simplex of degree q has the value 0
no_value : (q : ℕ) (a : List ℕ → ℕ) (g : ℕ → ℕ) (f : List ℕ) → IsOfDegree q a → (not (is_degenerate f) && (length f == suc q)) ≡ false → a (map g f) ≡ 0
no_value q a g f h e = elim (and_cases (not (is_degenerate f)) (length f == suc q) e) [
  | inl d ↦ h.ascending (map g f) (not_ascending (map g f) (is_degenerate-under g f (double (is_degenerate f) d)))
  | inr l ↦ h.long (map g f) (λ s. false≢true (sym l ∙ eq-eqb (length f) (suc q) (sym (length-map f g) ∙ s)))
]
  where
    double : (b : Bool) → not b ≡ false → b ≡ true
    double true d = refl
    double false d = absurd (false≢true (sym d))

abbrev one_product : ℕ → ℕ → ℕ → (List ℕ → ℕ) → (List ℕ → ℕ) → (ℕ → ℕ) → List ℕ → List ℕ → ℤ
one_product k m mask a c g u p = value_product (by_mask m mask (λ f. pos (a f)) (λ f. pos (c f))) (map (λ f. map g f) (cut_faces (numbers_from k m) u p))

-- the product on the faces of a cut that is not live is 0
no_product : (q m k mask : ℕ) (a c : List ℕ → ℕ) (g : ℕ → ℕ) (u p : List ℕ) → IsOfDegree q a → IsOfDegree q c → is_live q (cut_faces (numbers_from k m) u p) ≡ false
    → one_product k m mask a c g u p ≡ pos 0
no_product q zero k mask a c g u p h i e = absurd (false≢true (sym e))
no_product q (suc m) k mask a c g u p h i e =
    let face : List ℕ = cut_face k u 0 p in
    let rest : ℤ = one_product (suc k) m (mask / 2) a c g u p in
    let first : ℤ = (cond {A = List ℕ → ℤ} (mask % 2 == 1) (λ f. pos (c f)) (λ f. pos (a f))) (map g face) in
    elim (and_cases (not (is_degenerate face) && (length face == suc q)) (is_live q (cut_faces (numbers_from (suc k) m) u p)) e) [
      | inl d ↦ ap (λ v. v *ℤ rest) (chosen (mask % 2 == 1) face d) ∙ zero-*ℤ rest
      | inr d ↦ ap (λ v. first *ℤ v) (no_product q m (suc k) (mask / 2) a c g u p h i d) ∙ *ℤ-zero first
    ]
  where
    chosen : (b : Bool) (f : List ℕ) → (not (is_degenerate f) && (length f == suc q)) ≡ false → (cond {A = List ℕ → ℤ} b (λ x. pos (c x)) (λ x. pos (a x))) (map g f) ≡ pos 0
    chosen true f d = ap pos (no_value q c g f i d)
    chosen false f d = ap pos (no_value q a g f h d)

-- a sum over the live cuts is the one over all, where the others have the term 0
total-live : (live : List ℕ → Bool) (term : List ℕ → ℤ) (ps : List (List ℕ)) → ((p : List ℕ) → live p ≡ false → term p ≡ pos 0) → total term (filter live ps) ≡ total term ps
total-live live term [] h = refl
total-live live term (p ∷ ps) h = go (live p) refl (total-live live term ps h)
  where
    plus : (z : ℤ) → z ≡ pos 0 +ℤ z
    plus z = omega (arith, ints)

    go : (t : Bool) → live p ≡ t → total term (filter live ps) ≡ total term ps → total term (cond t (p ∷ filter live ps) (filter live ps)) ≡ term p +ℤ total term ps
    go true e s = ap (λ z. term p +ℤ z) s
    go false e s = s ∙ plus (total term ps) ∙ ap (λ z. z +ℤ total term ps) (sym (h p e))

-- the sum before the first live cut
pub live_part-start : (p x q mask : ℕ) (a c : List ℕ → ℕ) (u s : List ℕ) (w : LiveWalk) → w ≡ live_start q u → x ≡ 0 % p → IsOfDegree q a → IsOfDegree q c
    → IsPartOfSum p (signed_product (arity u) mask (λ f. pos (a f)) (λ f. pos (c f)) u s) u (live_top q u) x w.walk
live_part-start p x q mask a c u s w e f h i =
    let term : List ℕ → ℤ = signed_product (arity u) mask (λ g. pos (a g)) (λ g. pos (c g)) u s in
    record {
      values = ap (λ (v : LiveWalk). v.walk.values) e;
      top = ap (λ (v : LiveWalk). v.walk.top) e;
      rest =
          CongruentInt_trans (CongruentInt-sum (remainder p 0 x f) (CongruentInt_refl (total term w.walk.left)))
          (CongruentInt_of (plus (total term w.walk.left) ∙ ap (λ (v : LiveWalk). total term v.walk.left) e
          ∙ total-live (is_live_cut q u) term (cuts u (live_top q u))
          (λ r d. ap (signed (sign_exponent u 0 r)) (no_product q (arity u) 1 mask a c (vertex_at s) u r h i d) ∙ signed-zero (sign_exponent u 0 r))));
    }
  where
    plus : (z : ℤ) → pos 0 +ℤ z ≡ z
    plus z = omega (arith, ints)
