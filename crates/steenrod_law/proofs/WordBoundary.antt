-- The boundary law and the relations, on the values of May elements on words.
use Rattle.std.proofs.Common.{◌≡◌, ℕ, zero, suc, ◌+◌, ◌%◌, ◌≤◌, true, false, Bool, List, [], ◌∷◌, length, refl, sym, ◌∙◌, ap, arith, ℤ, pos, ◌+ℤ◌, ◌-ℤ◌}
use Rattle.interval_cut_law.{proofs.BoundaryLaws.cochain_boundary_law, specs.Names.{AreNormalized, one_coboundary, operation_value}}
use Rattle.signed_sum.specs.Names.{signed, IsNormalized, difference, power_sum, value_at}
use Rattle.simplicial_law.{proofs.Names.{CongruentInt_of, CongruentInt_trans}, specs.Names.{CongruentInt, HasDegree, HaveDegrees, integral_coboundary}}
use Rattle.steenrod_law.{proofs.AdditiveMaps.{adds-coboundary, adds-over, adds-signed}, proofs.Forms.{AreTerms, IsCochain, IsMayFamily, SurjectionTerm, boundary_over, value_over}, proofs.WordCochains.{over-equal, over-same, over-sum, word-cycle, word-turn_sum}, proofs.WordLemmas.{minus-sum, norm-sum}, specs.Names.{sum_value, word_cochains, choice, copies, norm, step, turn_back_less_one}}
use Rattle.surjection_law.specs.Names.{surjection_boundary, IsOnto}
use Rattle.table_reduction_law.{proofs.Permutations.turned-less, specs.Names.turned_values}

pub some : (p : ℕ) (u : List ℕ) → 1 ≤ p → IsOnto p u → 1 ≤ length u
some zero u le onto = absurd (omega (arith, le))
some (suc p) [] le onto = absurd (let e = onto 1 in omega arith)
some (suc p) (v ∷ u) le onto = omega arith

pub letters-normalized : (a b : List ℕ → ℤ) → IsNormalized a → IsNormalized b → (w : List Bool) → AreNormalized (word_cochains a b w)
letters-normalized a b pa pb [] = tt
letters-normalized a b pa pb (false ∷ w) = (pa, letters-normalized a b pa pb w)
letters-normalized a b pa pb (true ∷ w) = (pb, letters-normalized a b pa pb w)

-- the boundary law, summed over x
pub sum-law : (p m : ℕ) (x : List SurjectionTerm) (qs : List ℕ) (cs : List (List ℕ → ℤ)) (s : List ℕ) → AreTerms p m x → AreNormalized cs → HaveDegrees qs cs → 1 ≤ p → 1 ≤ length s →
    value_over x (λ u. one_coboundary qs cs (λ bs. operation_value p u bs s)) ≡ boundary_over x (λ u. operation_value p u cs s) +ℤ signed m (integral_coboundary (sum_value p x cs) s)
sum-law p m x qs cs s k n d le hs =
    over-equal p m x (λ u. one_coboundary qs cs (λ bs. operation_value p u bs s)) (λ u. value_at (λ v. operation_value p v cs s) (surjection_boundary u) +ℤ signed m (integral_coboundary (λ t. operation_value p u cs t) s)) k
    (λ u o e. cochain_boundary_law p u s qs cs n d o hs (some p u le o) ∙ ap (λ j. value_at (λ v. operation_value p v cs s) (surjection_boundary u) +ℤ signed j (integral_coboundary (λ t. operation_value p u cs t) s)) e)
    ∙ over-sum x (λ u. value_at (λ v. operation_value p v cs s) (surjection_boundary u)) (λ u. signed m (integral_coboundary (λ t. operation_value p u cs t) s))
    ∙ ap (λ z. boundary_over x (λ u. operation_value p u cs s) +ℤ z)
    (adds-signed (value_over x) (over-sum x) m (λ u. integral_coboundary (λ t. operation_value p u cs t) s) ∙ ap (signed m) (adds-coboundary (value_over x) (over-sum x) (λ u t. operation_value p u cs t) s))

-- T on a sum is T on the words
pub sum-turned : (p : ℕ) (deg : Bool → ℕ) (a b : List ℕ → ℤ) → HasDegree (deg false) a → HasDegree (deg true) b → (s : List ℕ) → 1 ≤ p → (m : ℕ) (y : List SurjectionTerm) → AreTerms p m y → (w : List Bool) → length w ≡ p →
    value_over y (λ u. value_at (λ v. operation_value p v (word_cochains a b w) s) (difference (turned_values p) u)) ≡ turn_back_less_one deg (λ v. sum_value p y (word_cochains a b v) s) w
sum-turned p deg a b da db s le m y k w e =
    let h : List ℕ → ℤ = λ u. operation_value p u (word_cochains a b w) s in
    over-equal p m y (λ u. value_at h (difference (turned_values p) u)) (λ u. turn_back_less_one deg (λ v. operation_value p u (word_cochains a b v) s) w) k
    (λ u o c. turned-less p h u ∙ ap (λ z. z -ℤ h u) (word-cycle p deg a b da db s le u w o e))
    ∙ sym (adds-over (λ f. turn_back_less_one deg f w) (λ f1 f2. minus-sum deg f1 f2 w) y (λ u v. operation_value p u (word_cochains a b v) s))

module _ (p : ℕ) (deg : Bool → ℕ) (a b : List ℕ → ℤ) (ca : IsCochain (deg false) a) (cb : IsCochain (deg true) b) (s : List ℕ) (pos_p : 1 ≤ p) (hs : 1 ≤ length s) (x : ℕ → List SurjectionTerm) (may : IsMayFamily p x) where
  -- the boundary of x_(m+1) is a step of the words
  pub relation : (m : ℕ) (w : List Bool) → length w ≡ p → CongruentInt p (boundary_over (x (suc m)) (λ u. operation_value p u (word_cochains a b w) s)) (step deg p (suc m) (λ v. sum_value p (x m) (word_cochains a b v) s) w)
  relation m w e = go (m % 2) (suc m % 2) refl (omega arith)
    where
      go : (c k : ℕ) → m % 2 ≡ c → c + k ≡ 1 → CongruentInt p (boundary_over (x (suc m)) (λ u. operation_value p u (word_cochains a b w) s)) (choice k (norm deg p (λ v. sum_value p (x m) (word_cochains a b v) s) w) (turn_back_less_one deg (λ v. sum_value p (x m) (word_cochains a b v) s) w))
      go zero zero q r = absurd (omega (arith, r))
      go (suc c) (suc k) q r = absurd (omega (arith, r))
      go zero (suc k) q r = CongruentInt_of (may.even m q (λ u. operation_value p u (word_cochains a b w) s) ∙ sum-turned p deg a b ca.degree cb.degree s pos_p m (x m) (may.terms m) w e)
      go (suc c) zero q r =
          let h : List ℕ → ℤ = λ u. operation_value p u (word_cochains a b w) s in
          let g : List ℕ → ℤ = λ u. norm deg p (λ v. operation_value p u (word_cochains a b v) s) w in
          CongruentInt_trans
          (CongruentInt_of (may.odd m (omega arith) h))
          (CongruentInt_trans
          (over-same p m (x m) (λ u. value_at h (power_sum (turned_values p) p u)) g (may.terms m) (λ u o y. word-turn_sum p deg a b ca.degree cb.degree s pos_p p u o w e))
          (CongruentInt_of (sym (adds-over (λ f. norm deg p f w) (λ f1 f2. norm-sum deg p f1 f2 w) (x m) (λ u v. operation_value p u (word_cochains a b v) s)))))

  pub relation-first : (w : List Bool) → length w ≡ p → CongruentInt p (boundary_over (x 0) (λ u. operation_value p u (word_cochains a b w) s)) (pos 0)
  relation-first w e = CongruentInt_of (may.first (λ u. operation_value p u (word_cochains a b w) s))

pub letters-copies : (a b : List ℕ → ℤ) (k : ℕ) → word_cochains a b (copies k true) ≡ copies k b
letters-copies a b zero = refl
letters-copies a b (suc k) = ap (λ cs. b ∷ cs) (letters-copies a b k)

pub letters-first : (a b : List ℕ → ℤ) (k : ℕ) → word_cochains a b (copies k false) ≡ copies k a
letters-first a b zero = refl
letters-first a b (suc k) = ap (λ cs. a ∷ cs) (letters-first a b k)
