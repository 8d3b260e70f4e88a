-- May elements as sums over pairs, and the number of their candidates.
use native.Mathlib.Decide.{dec_le}
use Rattle.std.proofs.{Math.Nat.{le-mul_of_pos_right, min-eq_left, min-eq_right, pow-succ'}, Common.{◌≡◌, ◌⊎◌, inl, inr, Bool, true, false, cond, None, pos, ℕ, zero, suc, length, ◌+◌, ◌*◌, ◌/◌, ◌%◌, ◌^◌, ◌≤◌, min, List, [], ◌∷◌, refl, sym, ◌∙◌, ap, arith, ℤ, ◌+ℤ◌}, lemmas.Int.ints}
use Rattle.may_elements.specs.{Counted.cut_off, Live.is_left_out}
use Rattle.table_reduction_law.{specs.Names.{candidate_count, in_turn, leading_entries, may_candidates, may_element, pair_count}, proofs.CandidateCounts.candidate_count_law, proofs.FormalSums.value_at-may_element, proofs.MayTwo.may_two_law, proofs.PowerPairs.may_sum}
use Rattle.operad_law.specs.FormalSums.{IsSameSum}
use Rattle.signed_sum.{specs.Names.{cycle_power, is_degenerate, kept_terms, normalized, restricted, total, unit_terms, value_at}, proofs.Names.{value_at-kept_terms, value_at-unit_terms}}

pub pair_count-half : (d : ℕ) → pair_count d ≡ d / 2
pair_count-half zero = refl
pair_count-half (suc zero) = refl
pair_count-half (suc (suc d)) = omega (arith, pair_count-half d)

total-ones : (us : List (List ℕ)) → total (λ u. pos 1) us ≡ pos (length us)
total-ones [] = refl
total-ones (u ∷ us) = omega (arith, ints, total-ones us)

-- how many of these lists are neither degenerate nor left out
count-few : (out : List ℕ → Bool) (us : List (List ℕ)) → (n : ℕ) × (total (normalized (restricted out (λ u. pos 1))) us ≡ pos n) × (n ≤ length us)
count-few out [] = (0, refl, omega arith)
count-few out (u ∷ us) = let r = count-few out us in elim (one-or-none (is_degenerate u) (out u)) [
  | inl z ↦ (r.0, omega (arith, ints, z, r.1), omega (arith, r.2))
  | inr o ↦ (suc r.0, omega (arith, ints, o, r.1), omega (arith, r.2))
]
  where
    one-or-none : (b c : Bool) → (cond b (pos 0) (cond c (pos 0) (pos 1)) ≡ pos 0) ⊎ (cond b (pos 0) (cond c (pos 0) (pos 1)) ≡ pos 1)
    one-or-none true c = inl refl
    one-or-none false true = inl refl
    one-or-none false false = inr refl

pub lead-even : (p d : ℕ) → d % 2 ≡ 0 → leading_entries p d ≡ cycle_power p 0 ∷ []
lead-even p zero h = refl
lead-even p (suc zero) h = absurd (let e : 1 % 2 ≡ 1 = refl in omega arith)
lead-even p (suc (suc d)) h = lead-even p d (omega arith)

pub lead-odd : (p d : ℕ) → d % 2 ≡ 1 → leading_entries p d ≡ cycle_power p 0 ∷ cycle_power p 1 ∷ []
lead-odd p zero h = absurd (let e : 0 % 2 ≡ 0 = refl in omega arith)
lead-odd p (suc zero) h = refl
lead-odd p (suc (suc d)) h = lead-odd p d (omega arith)

module _ (out : List ℕ → Bool) (p d : ℕ) (old new : List (List ℕ)) (none : old ≡ []) (adds : (phi : List ℕ → ℤ) → total phi new ≡ total phi old +ℤ may_sum p d (normalized (restricted out phi))) where
  wanted : (phi : List ℕ → ℤ) → total phi new ≡ value_at (restricted out phi) (may_element p d)
  wanted phi = omega (arith, ints, adds phi, ap (total phi) none, value_at-may_element p d (restricted out phi))

  -- the sum of the lists that a walk over all tuples adds to none
  pub wanted-is : (s : List (List ℕ × ℤ)) → ((phi : List ℕ → ℤ) → value_at phi s ≡ total phi new) → IsSameSum s (kept_terms out (may_element p d))
  wanted-is s a = record { at = λ phi. a phi ∙ wanted phi ∙ sym (value_at-kept_terms out phi (may_element p d)) }

  -- they are no more than the candidates
  pub wanted-few : 1 ≤ p → length new ≤ candidate_count p d
  wanted-few one =
      let ones : List ℕ → ℤ = λ u. pos 1 in
      let c = count-few out (may_candidates p d) in
      omega (arith, ints, total-ones new, wanted ones, value_at-kept_terms is_degenerate (restricted out ones) (unit_terms (may_candidates p d)), value_at-unit_terms (normalized (restricted out ones)) (may_candidates p d), c.1, c.2, candidate_count_law p d one)

-- where no list is left out
pub whole-is : (p d : ℕ) (s : List (List ℕ × ℤ)) → IsSameSum s (kept_terms (is_left_out None) (may_element p d)) → IsSameSum s (may_element p d)
whole-is p d s a = record { at = λ phi. a.at phi ∙ value_at-kept_terms (is_left_out None) phi (may_element p d) }

pub element-at_two : (p d : ℕ) (s : List (List ℕ × ℤ)) → IsSameSum s (may_element p d) → (h : List ℕ → ℤ) → p ≡ 2 → value_at h s ≡ h (in_turn 1 2 (d + 2))
element-at_two p d s a h two = a.at h ∙ ap (λ q. value_at h (may_element q d)) two ∙ may_two_law d h

-- one factor more, cut off before and after
cut_times : (p a : ℕ) → 1 ≤ p → min (10 ^ 15) (cut_off a * p) ≡ cut_off (p * a)
cut_times p a h =
    let up : a ≤ a * p = le-mul_of_pos_right a h in
    let most : 10 ^ 15 ≤ 10 ^ 15 * p = le-mul_of_pos_right (10 ^ 15) h in
    elim (dec_le a (10 ^ 15)) [
      | yes l ↦ let e : cut_off a ≡ a = min-eq_left l in rw e (omega arith)
      | no n ↦ let e : cut_off a ≡ 10 ^ 15 = min-eq_right (omega arith) in rw e (omega arith)
    ]

pub cut-more : (p i b count : ℕ) → 1 ≤ p → count ≡ cut_off (p ^ i * b) → min (10 ^ 15) (count * p) ≡ cut_off (p ^ (i + 1) * b)
cut-more p i b count h e =
    let one : i + 1 ≡ suc i = omega arith in
    let more : p ^ (i + 1) ≡ p * p ^ i = ap (λ k. p ^ k) one ∙ pow-succ' p i in
    let q : p * (p ^ i * b) ≡ p ^ (i + 1) * b = omega (arith, ap (λ v. v * b) more) in
    ap (λ v. min (10 ^ 15) (v * p)) e ∙ cut_times p (p ^ i * b) h ∙ ap cut_off q
