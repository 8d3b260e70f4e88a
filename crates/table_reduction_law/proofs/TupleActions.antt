-- The boundary of a tuple that is acted on, and of a degenerate tuple.
use Rattle.std.proofs.{Common.{◌≡◌, ℕ, Bool, true, false, ◌||◌, List, [], ◌∷◌, map, refl, sym, ◌∙◌, ap, arith, ℤ, pos}, lemmas.Int.ints, lemmas.Bool.or_right}
use Rattle.signed_sum.{proofs.Names.{is_same_list-true, fun_ext, restricted-gone, without_one-zero}, specs.Names.{is_same_list, unless_empty, restricted, without_one}}
use Rattle.table_reduction_law.{proofs.ReductionBoundary.face_sum, specs.Names.{begins_with_entry, is_degenerate_tuple}}

without_one-map : (t : ℕ → ℕ) (w : List (List ℕ)) (h : List (List ℕ) → ℤ) → without_one (map (λ x. map t x) w) h ≡ without_one w (λ v. h (map (λ x. map t x) v))
without_one-map t [] h = refl
without_one-map t (x ∷ w) h = let a = without_one-map t w (λ v. h (map t x ∷ v)) in omega (arith, ints)

pub face_sum-map : (t : ℕ → ℕ) (w : List (List ℕ)) (h : List (List ℕ) → ℤ) → face_sum (map (λ x. map t x) w) h ≡ face_sum w (λ v. h (map (λ x. map t x) v))
face_sum-map t w h = without_one-map t w (λ v. unless_empty v (h v)) ∙ ap (without_one w) (fun_ext same)
  where
    same : (v : List (List ℕ)) → unless_empty (map (λ x. map t x) v) (h (map (λ x. map t x) v)) ≡ unless_empty v (h (map (λ x. map t x) v))
    same [] = refl
    same (x ∷ v) = refl

-- g is 0 at degenerate tuples
abbrev pub Vanishes : (List (List ℕ) → ℤ) → Type 0
Vanishes g = (u : List (List ℕ)) → is_degenerate_tuple u ≡ true → g u ≡ pos 0

pub vanishes : (h : List (List ℕ) → ℤ) → Vanishes (λ u. unless_empty u (restricted is_degenerate_tuple h u))
vanishes h [] q = refl
vanishes h (x ∷ u) q = restricted-gone is_degenerate_tuple h (x ∷ u) q

-- the two equal neighbours give opposite terms
pub face_sum-degenerate : (v : List (List ℕ)) (g : List (List ℕ) → ℤ) → Vanishes g → is_degenerate_tuple v ≡ true → without_one v g ≡ pos 0
face_sum-degenerate [] g n h = refl
face_sum-degenerate (x ∷ []) g n h = absurd (let z : false ≡ true = h in cc)
face_sum-degenerate (x ∷ y ∷ w) g n h =
    go (is_same_list x y) refl h (face_sum-degenerate (y ∷ w) (λ r. g (x ∷ r)) (λ u q. n (x ∷ u) (or_right (begins_with_entry x u) (is_degenerate_tuple u) q)))
  where
    go : (b : Bool) → is_same_list x y ≡ b → (b || is_degenerate_tuple (y ∷ w)) ≡ true → (is_degenerate_tuple (y ∷ w) ≡ true → without_one (y ∷ w) (λ r. g (x ∷ r)) ≡ pos 0) → without_one (x ∷ y ∷ w) g ≡ pos 0
    go true e h ih =
        let a : g (y ∷ w) ≡ g (x ∷ w) = ap (λ z. g (z ∷ w)) (sym (is_same_list-true x y e)) in
        let b : without_one w (λ r. g (x ∷ y ∷ r)) ≡ pos 0 =
        ap (λ f. without_one w f) (λ i r. n (x ∷ y ∷ r) (ap (λ b. b || is_degenerate_tuple (y ∷ r)) e) i) ∙ without_one-zero w in
        omega (arith, ints)
    go false e h ih = let a = n (y ∷ w) h in let b = ih h in omega (arith, ints)
