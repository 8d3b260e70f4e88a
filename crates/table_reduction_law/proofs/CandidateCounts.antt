-- The tuples and the terms of a May element, and their number.
use Rattle.signed_sum.{proofs.Names.{All-kept_terms, length-numbers_from}, specs.Names.{is_degenerate, numbers_from, unit_terms}}
use Rattle.std.proofs.{Common.{◌≡◌, ℕ, zero, suc, ◌+◌, ◌-◌, ◌*◌, ◌^◌, ◌≤◌, false, List, [], ◌∷◌, ◌++◌, refl, sym, ◌∙◌, ap, arith, map, subst, inl, inr, ℤ, pos, length-append, All, flat_map, length}, Math.Nat.{pow-succ', pow-zero}, lemmas.Bool.cases_Bool, lemmas.List.length-map, lemmas.List.Elements.{All-append, All-cons, All-head, All-map, All-nil, All-tail, All-weaker}}
use Rattle.surjection_law.specs.Names.{IsOnto}
use Rattle.table_reduction_law.{proofs.MayBoundary.{lead-tuple, tuple-append}, proofs.PowerPairs.power-perm, proofs.ReducedLists.reduced_lists-onto, proofs.RowCounts.reduced_lists-length, specs.Names.{binomial, CandidateCountLaw, MayTermsLaw, ReducedListsLaw, cycle_power, pair_count, leading_entries, may_candidates, may_element, may_tuples, power_pairs, reduced_lists, IsTuple}}

All-flat_map : {X Y : Type 0} (P : Y → Type 0) (Q : X → Type 0) (f : X → List Y) (xs : List X) → ((x : X) → Q x → All P (f x)) → All Q xs → All P (flat_map f xs)
All-flat_map P Q f [] h k = All-nil P
All-flat_map P Q f (x ∷ xs) h k = All-append P (f x) (flat_map f xs) (h x (All-head Q x xs k)) (All-flat_map P Q f xs h (All-tail Q x xs k))

All-any : {X : Type 0} (xs : List X) → All (λ (x : X). Unit {0}) xs
All-any xs k d h = tt

-- each pair has two permutations
pairs-all : (p k : ℕ) → All (λ t. IsTuple p t × (length t ≡ k + k)) (power_pairs p k)
pairs-all p zero = All-cons (λ t. IsTuple p t × (length t ≡ 0)) [] [] (tt, refl) (All-nil (λ t. IsTuple p t × (length t ≡ 0)))
pairs-all p (suc k) =
    let P : ℕ → List (List ℕ) → Type 0 = λ n t. IsTuple p t × (length t ≡ n) in
    All-flat_map (P (suc k + suc k)) (λ e. Unit {0}) (λ e. map (λ t. cycle_power p e ∷ cycle_power p (suc e) ∷ t) (power_pairs p k)) (numbers_from 0 p)
    (λ e q. All-map (P (suc k + suc k)) (λ t. cycle_power p e ∷ cycle_power p (suc e) ∷ t) (power_pairs p k)
    (All-weaker (P (k + k)) (λ t. P (suc k + suc k) (cycle_power p e ∷ cycle_power p (suc e) ∷ t)) (λ t h. ((power-perm p e, (power-perm p (suc e), h.0)), (let n = h.1 in omega arith))) (power_pairs p k) (pairs-all p k)))
    (All-any (numbers_from 0 p))

leading-length : (p d : ℕ) → length (leading_entries p d) + (pair_count d + pair_count d) ≡ d + 1
leading-length p zero = refl
leading-length p (suc zero) = refl
leading-length p (suc (suc d)) = let a = leading-length p d in omega arith

may_tuples-all : (p d : ℕ) → All (λ w. IsTuple p w × (length w ≡ d + 1)) (may_tuples p d)
may_tuples-all p d =
    let P : List (List ℕ) → Type 0 = λ w. IsTuple p w × (length w ≡ d + 1) in
    All-map P (λ t. leading_entries p d ++ t) (power_pairs p (pair_count d))
    (All-weaker (λ t. IsTuple p t × (length t ≡ pair_count d + pair_count d)) (λ t. P (leading_entries p d ++ t))
    (λ t h. (tuple-append p (leading_entries p d) t (lead-tuple p d) h.0, (let a = length-append (leading_entries p d) t in let b = leading-length p d in let n = h.1 in omega arith)))
    (power_pairs p (pair_count d)) (pairs-all p (pair_count d)))

-- the terms

abbrev IsTerm : ℕ → ℕ → List ℕ → Type 0
IsTerm p d u = IsOnto p u × (length u ≡ p + d)

one-tuple : (p d : ℕ) (w : List (List ℕ)) → 1 ≤ p → IsTuple p w → length w ≡ d + 1 → All (IsTerm p d) (reduced_lists w)
one-tuple p d [] le k e = absurd (omega (arith, e))
one-tuple p d (w ∷ ws) le k e =
    let q : length ws ≡ d = omega (arith, e) in
    subst (λ (n : ℕ). All (λ u. IsOnto p u × (length u ≡ p + n)) (reduced_lists (w ∷ ws))) q (reduced_lists-onto p w ws le k)

pub may_terms_law : MayTermsLaw
may_terms_law = record {
  tuples = may_tuples-all;
  terms = λ p d le. (
      let P : List ℕ → Type 0 = λ u. IsOnto p u × (length u ≡ p + d) × (is_degenerate u ≡ false) in
      let Q : List ℕ → Type 0 = λ u. is_degenerate u ≡ false → P u in
      All-kept_terms is_degenerate P (unit_terms (may_candidates p d))
      (All-map (λ (t : List ℕ × ℤ). Q t.0) (λ u. (u, pos 1)) (may_candidates p d)
      (All-flat_map Q (λ w. IsTuple p w × (length w ≡ d + 1)) reduced_lists (may_tuples p d)
      (λ w k. All-weaker (IsTerm p d) Q (λ u h plain. (h.0, h.1, plain)) (reduced_lists w) (one-tuple p d w le k.0 k.1)) (may_tuples-all p d))));
}

-- counting

-- lists of one length each
length-flat_map_each : {X Y : Type 0} (Q : X → Type 0) (f : X → List Y) (c : ℕ) (xs : List X) → ((x : X) → Q x → length (f x) ≡ c) → All Q xs → length (flat_map f xs) ≡ length xs * c
length-flat_map_each Q f c [] h k = omega arith
length-flat_map_each Q f c (x ∷ xs) h k =
    let a = length-append (f x) (flat_map f xs) in
    let b = length-flat_map_each Q f c xs h (All-tail Q x xs k) in
    let e = h x (All-head Q x xs k) in
    omega arith

power_pairs-length : (p k : ℕ) → length (power_pairs p k) ≡ p ^ k
power_pairs-length p zero = sym (pow-zero p)
power_pairs-length p (suc k) =
    length-flat_map_each (λ e. Unit {0}) (λ e. map (λ t. cycle_power p e ∷ cycle_power p (suc e) ∷ t) (power_pairs p k)) (p ^ k) (numbers_from 0 p)
    (λ e q. length-map (power_pairs p k) (λ t. cycle_power p e ∷ cycle_power p (suc e) ∷ t) ∙ power_pairs-length p k) (All-any (numbers_from 0 p))
    ∙ ap (λ j. j * p ^ k) (length-numbers_from 0 p)
    ∙ sym (pow-succ' p k)

count-one : (p d : ℕ) (w : List (List ℕ)) → IsTuple (suc p) w → length w ≡ d + 1 → length (reduced_lists w) ≡ binomial (p + d) d
count-one p d [] t e = absurd (omega (arith, e))
count-one p d (w ∷ ws) t e = reduced_lists-length p w ws t ∙ (let n : length ws ≡ d = omega (arith, e) in ap (λ j. binomial (p + j) j) n)

pub candidate_count_law : CandidateCountLaw
candidate_count_law zero d h = absurd (omega arith)
candidate_count_law (suc p) d h =
    let e : suc p + d - 1 ≡ p + d = omega arith in
    length-flat_map_each (λ w. IsTuple (suc p) w × (length w ≡ d + 1)) reduced_lists (binomial (p + d) d) (may_tuples (suc p) d) (λ w k. count-one p d w k.0 k.1) (may_tuples-all (suc p) d)
    ∙ ap (λ j. j * binomial (p + d) d) (length-map (power_pairs (suc p) (pair_count d)) (λ t. leading_entries (suc p) d ++ t) ∙ power_pairs-length (suc p) (pair_count d))
    ∙ ap (λ n. suc p ^ pair_count d * binomial n d) (sym e)

pub reduced_lists_law : ReducedListsLaw
reduced_lists_law = record {
  terms = reduced_lists-onto;
  count = λ r w ws t. reduced_lists-length r w ws (let e : r + 1 ≡ suc r = omega arith in subst (λ (n : ℕ). IsTuple n (w ∷ ws)) e t);
}
