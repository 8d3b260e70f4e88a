-- The entries of a matrix times a vector.
use Rattle.std.proofs.Common.{◌≡◌, ℕ, zero, suc, ◌+◌, ◌*◌, ◌<◌, List, [], ◌∷◌, map, length, mod-eq_of_lt, refl, sym, ◌∙◌, ap, ap₂, arith}
use Rattle.std.proofs.lemmas.List.{length-map}
use Rattle.linear_law.specs.Names.{AgreesOn, Congruent, Each, combination, copies, matrix_times, plus_scaled, row_combination, row_combination_from}
use Rattle.linear_law.proofs.Names.{copies-small, length-copies, plus_scaled-length, plus_scaled-small, Congruent_add, Congruent_mod, Congruent_of, Congruent_refl, Congruent_trans}
use Rattle.pair_law.specs.Certificates.{IsMatrix, entry}
use Rattle.pair_law.specs.Sequences.{IsVector}

pub entry-copies : (h y : ℕ) → entry (copies h 0) y ≡ 0
entry-copies zero y = refl
entry-copies (suc h) zero = refl
entry-copies (suc h) (suc y) = entry-copies h y

entry-plus : (p c : ℕ) (xs ys : List ℕ) (y : ℕ) → length xs ≡ length ys → Congruent p (entry (plus_scaled p c xs ys) y) (c * entry xs y + entry ys y)
entry-plus p c [] [] y e = Congruent_of (omega arith)
entry-plus p c [] (b ∷ ys) y e = absurd (omega (arith, e))
entry-plus p c (a ∷ xs) [] y e = absurd (omega (arith, e))
entry-plus p c (a ∷ xs) (b ∷ ys) zero e = Congruent_mod p (c * a + b)
entry-plus p c (a ∷ xs) (b ∷ ys) (suc y) e = entry-plus p c xs ys y (omega (arith, e))

-- coefficients in a list, and as a function of places
combined-rows : (k : ℕ) (cs : List ℕ) (rows : List (ℕ → ℕ)) (v : ℕ → ℕ) (y : ℕ) → length cs ≡ length rows → ((j : ℕ) → v (k + j) ≡ entry cs j) → combination cs rows y ≡ row_combination_from k rows v y
combined-rows k [] [] v y e at = refl
combined-rows k [] (r ∷ rows) v y e at = absurd (omega (arith, e))
combined-rows k (c ∷ cs) [] v y e at = absurd (omega (arith, e))
combined-rows k (c ∷ cs) (r ∷ rows) v y e at =
    let first : c ≡ v k = sym (at 0) ∙ ap v (let q : k + 0 ≡ k = omega arith in q) in
    ap₂ (λ a b. a * r y + b) first (combined-rows (suc k) cs rows v y (omega (arith, e)) (λ j. ap v (let q : suc k + j ≡ k + suc j = omega arith in q) ∙ at (suc j)))

module _ (p : ℕ) (large : 1 < p) where
  -- matrices of h rows give vectors
  pub times-vector : (h : ℕ) (columns : List (List ℕ)) (cs : List ℕ) → Each (λ c. length c ≡ h) columns → IsVector p h (matrix_times p h columns cs)
  times-vector h [] cs e = record { count = length-copies h 0; small = copies-small p h large }
  times-vector h (column ∷ columns) [] e = record { count = length-copies h 0; small = copies-small p h large }
  times-vector h (column ∷ columns) (c ∷ cs) e =
      let k = times-vector h columns cs e.1 in
      let R : List ℕ = matrix_times p h columns cs in
      record { count = plus_scaled-length p c column R (e.0 ∙ sym k.count) ∙ k.count; small = plus_scaled-small p c column R large }

  -- the entry of the product is the combination of those of the columns
  pub times-combined : (h : ℕ) (columns : List (List ℕ)) (cs : List ℕ) (y : ℕ) → Each (λ c. length c ≡ h) columns → length cs ≡ length columns →
      Congruent p (entry (matrix_times p h columns cs) y) (combination cs (map entry columns) y)
  times-combined h [] [] y e l = Congruent_of (entry-copies h y)
  times-combined h [] (c ∷ cs) y e l = absurd (omega (arith, l))
  times-combined h (column ∷ columns) [] y e l = absurd (omega (arith, l))
  times-combined h (column ∷ columns) (c ∷ cs) y e l =
      Congruent_trans (entry-plus p c column (matrix_times p h columns cs) y (e.0 ∙ sym (times-vector h columns cs e.1).count))
      (Congruent_add (Congruent_refl (c * entry column y)) (times-combined h columns cs y e.1 (omega (arith, l))))

  pub times-entry : (h n : ℕ) (columns : List (List ℕ)) (cs : List ℕ) (y : ℕ) → IsMatrix h n columns → length cs ≡ n → Congruent p (entry (matrix_times p h columns cs) y) (row_combination (map entry columns) (entry cs) y)
  times-entry h n columns cs y m l =
      Congruent_trans (times-combined h columns cs y m.high (l ∙ sym m.wide))
      (Congruent_of (combined-rows 0 cs (map entry columns) (entry cs) y (l ∙ sym m.wide ∙ sym (length-map columns entry)) (λ j. ap (entry cs) (let q : 0 + j ≡ j = omega arith in q))))

-- vectors with the same residues are one
pub same_vector : (p size : ℕ) (u v : List ℕ) → IsVector p size u → IsVector p size v → AgreesOn p (λ x. x < size) (entry u) (entry v) → u ≡ v
same_vector p size u v hu hv h = go u v (hu.count ∙ sym hv.count) hu.small hv.small (λ x b. h.at x (let e = hu.count in omega (arith, e, b)))
  where
    go : (u v : List ℕ) → length u ≡ length v → Each (λ c. c < p) u → Each (λ c. c < p) v → ((x : ℕ) → x < length u → Congruent p (entry u x) (entry v x)) → u ≡ v
    go [] [] e a b k = refl
    go [] (d ∷ v) e a b k = absurd (omega (arith, e))
    go (c ∷ u) [] e a b k = absurd (omega (arith, e))
    go (c ∷ u) (d ∷ v) e a b k =
        ap₂ ◌∷◌ (sym (mod-eq_of_lt a.0) ∙ (k 0 (omega arith)).same ∙ mod-eq_of_lt b.0)
        (go u v (omega (arith, e)) a.1 b.1 (λ x l. k (suc x) (omega arith)))
