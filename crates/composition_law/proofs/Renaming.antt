-- Lists with other values.
use Rattle.std.proofs.{Common.{List, [], ap, arith, map, refl, suc, sym, ℕ, ◌++◌, ◌+◌, ◌∙◌, ◌∷◌, ◌≡◌, ℤ}, lemmas.Int.ints, lemmas.List.map-append, lemmas.Bool.Decides.nat_tests}
use Rattle.signed_sum.specs.Names.{if_zero, occurs, unless_zero, signed}
use Rattle.surjection_law.specs.Names.{caesura_count, caesuras_among, caesuras_before_last, place_term, without_place}

-- each entry comes back
abbrev pub Back : (ℕ → ℕ) → (ℕ → ℕ) → List ℕ → Type 0
Back t i [] = Unit {0}
Back t i (x ∷ u) = (i (t x) ≡ x) × Back t i u

module _ (t i : ℕ → ℕ) where
  back-append : (p u : List ℕ) → Back t i p → Back t i u → Back t i (p ++ u)
  back-append [] u a b = b
  back-append (x ∷ p) u a b = (a.0, back-append p u a.1 b)

  pub occurs-renamed : (x : ℕ) (u : List ℕ) → i (t x) ≡ x → Back t i u → occurs (t x) (map t u) ≡ occurs x u
  occurs-renamed x [] h k = refl
  occurs-renamed x (y ∷ u) h k = let n : t x ≡ t y → x ≡ y = λ q. sym h ∙ ap i q ∙ k.0 in grind (arith, nat_tests, n, occurs-renamed x u h k.1)

  pub caesuras-map : (u : List ℕ) → Back t i u → caesura_count (map t u) ≡ caesura_count u
  caesuras-map [] k = refl
  caesuras-map (x ∷ u) k = λ j. occurs-renamed x u k.0 k.1 j + caesuras-map u k.1 j

  has-both : (v : ℕ) (p u : List ℕ) → i (t v) ≡ v → Back t i p → Back t i u → occurs (t v) (map t p ++ map t u) ≡ occurs v (p ++ u)
  has-both v p u h a b = ap (occurs (t v)) (sym (map-append t p u)) ∙ occurs-renamed v (p ++ u) h (back-append p u a b)

  caesuras-moved : (p u : List ℕ) → Back t i p → Back t i u → caesuras_among (map t p) (map t u) ≡ caesuras_among p u
  caesuras-moved [] u a b = refl
  caesuras-moved (y ∷ p) u a b = λ j. has-both y p u a.0 a.1 b j + caesuras-moved p u a.1 b j

  last-moved : (p : List ℕ) (v : ℕ) (u : List ℕ) → Back t i p → i (t v) ≡ v → Back t i u → caesuras_before_last (map t p) (t v) (map t u) ≡ caesuras_before_last p v u
  last-moved [] v u a h b = refl
  last-moved (y ∷ p) v u a h b = λ j. if_zero (occurs-renamed v p h a.1 j) 0 (has-both y p (v ∷ u) a.0 a.1 (h, b) j + last-moved p v u a.1 h b j)

  term-moved : (p : List ℕ) (v : ℕ) (u : List ℕ) (z : ℤ) → Back t i p → i (t v) ≡ v → Back t i u → place_term (map t p) (t v) (map t u) z ≡ place_term p v u z
  term-moved p v u z a h b = λ j. unless_zero (has-both v p u h a b j) (signed (if_zero (occurs-renamed v u h b j) (suc (last-moved p v u a h b j)) (caesuras-moved p (v ∷ u) a (h, b) j)) z)

  pub boundary-moved : (u p : List ℕ) (h : List ℕ → ℤ) → Back t i p → Back t i u → without_place (map t p) (map t u) h ≡ without_place p u (λ w. h (map t w))
  boundary-moved [] p h a b = refl
  boundary-moved (v ∷ u) p h a b =
      let ih = boundary-moved u (p ++ (v ∷ [])) (λ w. h (t v ∷ w)) (back-append p (v ∷ []) a (b.0, tt)) b.1 in
      let c = term-moved p v u (h (map t u)) a b.0 b.1 in
      let d : without_place (map t (p ++ (v ∷ []))) (map t u) (λ w. h (t v ∷ w)) ≡ without_place (map t p ++ (t v ∷ [])) (map t u) (λ w. h (t v ∷ w)) =
      ap (λ l. without_place l (map t u) (λ w. h (t v ∷ w))) (map-append t p (v ∷ [])) in
      omega (arith, ints)
