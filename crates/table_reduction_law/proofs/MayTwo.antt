-- May elements at 2.
use Rattle.std.proofs.{Common.{◌≡◌, ℕ, zero, suc, ◌+◌, ◌≤◌, ◌⊎◌, inl, inr, true, false, List, [], ◌∷◌, ◌++◌, refl, sym, ◌∙◌, ap, arith, lit≤, ℤ, pos, ◌+ℤ◌, neg_ℤ}, lemmas.Int.ints, lemmas.Bool.or_right}
use Rattle.signed_sum.{proofs.Names.{occurs-apart, occurs-self, restricted-there}, specs.Names.{is_degenerate, IsNormalized, normalized}}
use Rattle.table_reduction_law.{proofs.DegenerateTuples.{normal-cons, normal-twice, reduced-degenerate, walk-begins}, proofs.FormalSums.{normalized-normalized, value_at-may_element}, proofs.PowerPairs.{may_sum, may_tuple_sum, pair_sum, pairs-cong, pairs-neg, power-perm}, proofs.ReductionBoundary.{reduced-walked, reduction_sum}, proofs.ReductionWalks.walk, specs.Names.{in_turn, MayTwoLaw, pair_count, leading_entries, cons_if_zero, unused, IsPermutationOf, IsTuple, begins_with_entry, is_degenerate_tuple}}

abbrev one : List ℕ
one = 1 ∷ 2 ∷ []

abbrev rho : List ℕ
rho = 2 ∷ 1 ∷ []

-- only the last row can be the long one
swing-walk : (n x y : ℕ) (h : List ℕ → ℤ) → IsNormalized h → (x ≡ y → ⊥) →
    walk (in_turn (y ∷ x ∷ []) (x ∷ y ∷ []) n) (x ∷ y ∷ []) [] h ≡ h (in_turn x y (suc (suc n)))
swing-walk zero x y h n d = refl
swing-walk (suc n) x y h m d =
    let ws : List (List ℕ) = in_turn (x ∷ y ∷ []) (y ∷ x ∷ []) n in
    let ih = swing-walk n y x (λ u. h (x ∷ u)) (normal-cons x h m) (λ e. d (sym e)) in
    let u : unused (x ∷ []) (y ∷ x ∷ []) ≡ y ∷ [] = (λ i. cons_if_zero (occurs-apart y x [] (λ e. d (sym e)) i) y (cons_if_zero (occurs-self x [] i) x [])) in
    let a : walk ws (unused (x ∷ []) (y ∷ x ∷ [])) (x ∷ []) (λ r. h (x ∷ y ∷ r)) ≡ walk ws (y ∷ []) (x ∷ []) (λ r. h (x ∷ y ∷ r)) = ap (λ z. walk ws z (x ∷ []) (λ r. h (x ∷ y ∷ r))) u in
    let b = walk-begins ws y [] (x ∷ []) (λ r. h (x ∷ y ∷ r)) (normal-twice y (λ u. h (x ∷ u)) (normal-cons x h m)) in
    omega (arith, ints)

lead-either : (d : ℕ) → (leading_entries 2 d ≡ one ∷ []) ⊎ (leading_entries 2 d ≡ one ∷ rho ∷ [])
lead-either zero = inl refl
lead-either (suc zero) = inr refl
lead-either (suc (suc d)) = lead-either d

pairs-zero : (p k : ℕ) → pair_sum p k (λ t. pos 0) ≡ pos 0
pairs-zero p k = let a : pair_sum p k (λ t. pos 0) ≡ neg_ℤ (pair_sum p k (λ t. pos 0)) = pairs-neg p k (λ t. pos 0) in omega (arith, ints)

twin-more : (w : List (List ℕ)) → is_degenerate_tuple w ≡ true → is_degenerate_tuple (one ∷ rho ∷ w) ≡ true
twin-more w h = or_right (begins_with_entry rho w) (is_degenerate_tuple w) h

one-perm : IsPermutationOf 2 one
one-perm = power-perm 2 0

rho-perm : IsPermutationOf 2 rho
rho-perm = power-perm 2 1

-- only the tuple in turn has no equal neighbours
two-tuples : (d : ℕ) (g : List (List ℕ) → ℤ) → ((w : List (List ℕ)) → IsTuple 2 w → is_degenerate_tuple w ≡ true → g w ≡ pos 0) →
    may_tuple_sum 2 d g ≡ g (in_turn one rho (suc d))
two-tuples zero g z = refl
two-tuples (suc zero) g z = refl
two-tuples (suc (suc d)) g z = go (leading_entries 2 d) (lead-either d) (two-tuples d (λ w. g (one ∷ rho ∷ w)) (λ w t e. z (one ∷ rho ∷ w) (one-perm, (rho-perm, t)) (twin-more w e)))
  where
    go : (l : List (List ℕ)) → (l ≡ one ∷ []) ⊎ (l ≡ one ∷ rho ∷ []) →
        pair_sum 2 (pair_count d) (λ t. g (one ∷ rho ∷ (l ++ t))) ≡ g (one ∷ rho ∷ in_turn one rho (suc d)) →
        (pos 0 +ℤ pair_sum 2 (pair_count d) (λ t. g (l ++ (one ∷ rho ∷ t)))) +ℤ pair_sum 2 (pair_count d) (λ t. g (l ++ (rho ∷ one ∷ t))) ≡ g (one ∷ rho ∷ in_turn one rho (suc d))
    go l (inl e) ih =
        let a : pair_sum 2 (pair_count d) (λ t. g (one ∷ rho ∷ one ∷ t)) ≡ g (one ∷ rho ∷ in_turn one rho (suc d)) = (λ i. pair_sum 2 (pair_count d) (λ t. g (one ∷ rho ∷ (sym e i ++ t)))) ∙ ih in
        let b : pair_sum 2 (pair_count d) (λ t. g (l ++ (one ∷ rho ∷ t))) ≡ pair_sum 2 (pair_count d) (λ t. g (one ∷ one ∷ rho ∷ t)) = (λ i. pair_sum 2 (pair_count d) (λ t. g (e i ++ (one ∷ rho ∷ t)))) in
        let c = pairs-cong 2 (pair_count d) (λ t. g (one ∷ one ∷ rho ∷ t)) (λ t. pos 0) (λ t k. z (one ∷ one ∷ rho ∷ t) (one-perm, (one-perm, (rho-perm, k))) refl) in
        let f = pairs-zero 2 (pair_count d) in
        let h : pair_sum 2 (pair_count d) (λ t. g (l ++ (rho ∷ one ∷ t))) ≡ pair_sum 2 (pair_count d) (λ t. g (one ∷ rho ∷ one ∷ t)) = (λ i. pair_sum 2 (pair_count d) (λ t. g (e i ++ (rho ∷ one ∷ t)))) in
        omega (arith, ints)
    go l (inr e) ih =
        let a : pair_sum 2 (pair_count d) (λ t. g (one ∷ rho ∷ one ∷ rho ∷ t)) ≡ g (one ∷ rho ∷ in_turn one rho (suc d)) = (λ i. pair_sum 2 (pair_count d) (λ t. g (one ∷ rho ∷ (sym e i ++ t)))) ∙ ih in
        let b : pair_sum 2 (pair_count d) (λ t. g (l ++ (one ∷ rho ∷ t))) ≡ pair_sum 2 (pair_count d) (λ t. g (one ∷ rho ∷ one ∷ rho ∷ t)) = (λ i. pair_sum 2 (pair_count d) (λ t. g (e i ++ (one ∷ rho ∷ t)))) in
        let c = pairs-cong 2 (pair_count d) (λ t. g (one ∷ rho ∷ rho ∷ one ∷ t)) (λ t. pos 0) (λ t k. z (one ∷ rho ∷ rho ∷ one ∷ t) (one-perm, (rho-perm, (rho-perm, (one-perm, k)))) refl) in
        let f = pairs-zero 2 (pair_count d) in
        let h : pair_sum 2 (pair_count d) (λ t. g (l ++ (rho ∷ one ∷ t))) ≡ pair_sum 2 (pair_count d) (λ t. g (one ∷ rho ∷ rho ∷ one ∷ t)) = (λ i. pair_sum 2 (pair_count d) (λ t. g (e i ++ (rho ∷ one ∷ t)))) in
        omega (arith, ints)

swing-tuple : (n : ℕ) (x y : List ℕ) → IsPermutationOf 2 x → IsPermutationOf 2 y → IsTuple 2 (in_turn x y n)
swing-tuple zero x y h k = tt
swing-tuple (suc n) x y h k = (h, swing-tuple n y x k h)

two-law : (d : ℕ) (h : List ℕ → ℤ) → IsNormalized h → may_sum 2 d h ≡ h (in_turn 1 2 (suc (suc d)))
two-law d h n =
    let b : 1 ≤ 2 = lit≤ tt in
    two-tuples d (λ w. reduction_sum w h) (λ w t e. reduced-degenerate 2 w h b t n e)
    ∙ reduced-walked 2 (in_turn one rho (suc d)) h b (swing-tuple (suc d) one rho one-perm rho-perm)
    ∙ swing-walk d 1 2 h n (λ e. absurd (omega (arith, e)))

plain : (n : ℕ) → (is_degenerate (in_turn 1 2 n) ≡ false) × (is_degenerate (in_turn 2 1 n) ≡ false)
plain zero = (refl, refl)
plain (suc zero) = (refl, refl)
plain (suc (suc n)) = let k = plain (suc n) in (k.1, k.0)

pub may_two_law : MayTwoLaw
may_two_law d h =
    let e : suc (suc d) ≡ d + 2 = omega arith in
    value_at-may_element 2 d h
    ∙ two-law d (normalized h) (normalized-normalized h)
    ∙ restricted-there is_degenerate h (in_turn 1 2 (suc (suc d))) (plain (suc (suc d))).0
    ∙ ap (λ n. h (in_turn 1 2 n)) e
