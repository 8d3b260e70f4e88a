-- The walk over the places of a surjection that sums up its boundary: what is to come, and what is kept.
use Rattle.std.{proofs.Common.{◌≡◌, ℕ, zero, suc, ◌+◌, ◌-◌, ◌≤◌, ◌<◌, ◌≢◌, Bool, true, false, eqb, List, [], ◌∷◌, ◌++◌, length, take, drop, set, get_or, replicate, map, get_or-set_same, append_assoc, refl, sym, ap, ◌∙◌, inl, inr, arith, subst, IsTrue, ◌==◌, ℤ, pos, neg_ℤ, ◌+ℤ◌, ◌*ℤ◌, nat_abs, remove, eq-eqb, eqb-true, ne_eqb}, specs.Cmp.Lexicographic.slice_cmp, specs.Ordering.nat_cmp, proofs.Math.Seq.{take-suc, drop-cons}, proofs.lemmas.Int.ints, proofs.lemmas.Bool.{cases_eq, eqb-false}}
use Rattle.signed_sum.{specs.Names.{is_degenerate, occurs, is_zero, normalized, value_at, weight_of, without_each}, proofs.Names.{fun_ext, restricted-gone, restricted-there, value_at-nonzero_terms, weighted_sum-cons, weighted_sum-nil, occurs-01}, proofs.SumLemmas.weighted_sum}
use Rattle.surjection_law.{specs.Names.{no_sign, place_signs_from, surjection_boundary, with_sign, IsSurjection, arity}, proofs.BoundaryPlaces.{with_sign-other, with_sign-same}, proofs.SurjectionTerms.{EachTerm, EachTerm-face, IsFace, IsSurjection-face}}
use Rattle.operad_law.{specs.FormalSums.{IsSameSum, plus_term}, proofs.WordLemmas.drop_rest, proofs.PlusTerm.{value_at-plus_term, weight_of-plus_term}, proofs.ListOrder.equal_numbers}
use Rattle.table_reduction_law.proofs.Permutations.{onto-within, within-at}
use Rattle.surjection.specs.Names.{comes_again, AddsList}

-- the lists without each place of xs, behind pre
abbrev pub rest_lists : List ℕ → List ℕ → List (List ℕ)
rest_lists pre xs = map (λ v. pre ++ v) (without_each xs)

-- what an array keeps
abbrev pub kept_signs : List ℤ → ℕ → ℤ
kept_signs bs y = get_or bs y (pos 0)

map_map : (pre : List ℕ) (x : ℕ) (vs : List (List ℕ)) → map (λ v. pre ++ v) (map (λ ys. x ∷ ys) vs) ≡ map (λ v. (pre ++ x ∷ []) ++ v) vs
map_map pre x [] = refl
map_map pre x (v ∷ vs) = λ i. sym (append_assoc pre (x ∷ []) v) i ∷ map_map pre x vs i

pub rest_lists-cons : (pre : List ℕ) (x : ℕ) (xs : List ℕ) → rest_lists pre (x ∷ xs) ≡ (pre ++ xs) ∷ rest_lists (pre ++ x ∷ []) xs
rest_lists-cons pre x xs = ap (λ v. (pre ++ xs) ∷ v) (map_map pre x (without_each xs))

set_elsewhere : (bs : List ℤ) (x y : ℕ) (s : ℤ) → y ≢ x → get_or (set bs x s) y (pos 0) ≡ get_or bs y (pos 0)
set_elsewhere [] x y s d = refl
set_elsewhere (b ∷ bs) zero zero s d = absurd (d refl)
set_elsewhere (b ∷ bs) zero (suc y) s d = refl
set_elsewhere (b ∷ bs) (suc x) zero s d = refl
set_elsewhere (b ∷ bs) (suc x) (suc y) s d = set_elsewhere bs x y s (λ e. d (ap suc e))

kept_signs_none : (n y : ℕ) → get_or (replicate n (pos 0)) y (pos 0) ≡ pos 0
kept_signs_none zero y = refl
kept_signs_none (suc n) zero = refl
kept_signs_none (suc n) (suc y) = kept_signs_none n y

pub kept_signs-replicate : (n : ℕ) → kept_signs (replicate n (pos 0)) ≡ no_sign
kept_signs-replicate n = fun_ext (kept_signs_none n)

pub kept_signs-set : (bs : List ℤ) (x : ℕ) (s : ℤ) → x < length bs → kept_signs (set bs x s) ≡ with_sign x s (kept_signs bs)
kept_signs-set bs x s h = fun_ext (λ y. elim (cases_eq y x) [
  | inl e ↦ ap (λ v. get_or (set bs x s) v (pos 0)) e ∙ get_or-set_same bs x s (pos 0) h ∙ sym (with_sign-same x y s (kept_signs bs) e)
  | inr e ↦ set_elsewhere bs x y s e ∙ sym (with_sign-other x y s (kept_signs bs) e)
])

-- what a walk over the places has still to add, at phi
abbrev pub to_come : (List ℕ → ℤ) → List ℕ → ℤ → (ℕ → ℤ) → List ℕ → ℤ
to_come phi pre s m xs = weighted_sum phi (rest_lists pre xs) (place_signs_from s m xs)

to_come_step : (phi : List ℕ → ℤ) (v : List ℕ) (vs : List (List ℕ)) (s : ℤ) (ss : List ℤ) → weighted_sum phi (v ∷ vs) (s ∷ ss) ≡ s *ℤ phi v +ℤ weighted_sum phi vs ss
to_come_step phi v vs s ss = weighted_sum-cons phi v vs s ss

pub to_come-last : (phi : List ℕ → ℤ) (pre : List ℕ) (s : ℤ) (m : ℕ → ℤ) (x : ℕ) (xs : List ℕ) → occurs x xs ≡ 0 → to_come phi pre s m (x ∷ xs) ≡ neg_ℤ (m x) *ℤ phi (pre ++ xs) +ℤ to_come phi (pre ++ x ∷ []) s m xs
to_come-last phi pre s m x xs h = rw (rest_lists-cons pre x xs, h) (to_come_step phi (pre ++ xs) (rest_lists (pre ++ x ∷ []) xs) (neg_ℤ (m x)) (place_signs_from s m xs))

pub to_come-again : (phi : List ℕ → ℤ) (pre : List ℕ) (s : ℤ) (m : ℕ → ℤ) (x : ℕ) (xs : List ℕ) → occurs x xs ≢ 0 → to_come phi pre s m (x ∷ xs) ≡ s *ℤ phi (pre ++ xs) +ℤ to_come phi (pre ++ x ∷ []) (neg_ℤ s) (with_sign x s m) xs
to_come-again phi pre s m x xs h = rw (rest_lists-cons pre x xs, ne_eqb (occurs x xs) 0 h) (to_come_step phi (pre ++ xs) (rest_lists (pre ++ x ∷ []) xs) s (place_signs_from (neg_ℤ s) (with_sign x s m) xs))

-- what the walk has still to meet
abbrev pub AllToCome : (List ℕ → Type 0) → List ℕ → ℤ → (ℕ → ℤ) → List ℕ → Type 0
AllToCome P pre s m xs = EachTerm P (rest_lists pre xs) (place_signs_from s m xs)

pub AllToCome-last : (P : List ℕ → Type 0) (pre : List ℕ) (s : ℤ) (m : ℕ → ℤ) (x : ℕ) (xs : List ℕ) → occurs x xs ≡ 0 → AllToCome P pre s m (x ∷ xs) → (is_zero (neg_ℤ (m x)) ≡ false → P (pre ++ xs)) × AllToCome P (pre ++ x ∷ []) s m xs
AllToCome-last P pre s m x xs h e = rw (rest_lists-cons pre x xs, h) at e

pub AllToCome-again : (P : List ℕ → Type 0) (pre : List ℕ) (s : ℤ) (m : ℕ → ℤ) (x : ℕ) (xs : List ℕ) → occurs x xs ≢ 0 → AllToCome P pre s m (x ∷ xs) → (is_zero s ≡ false → P (pre ++ xs)) × AllToCome P (pre ++ x ∷ []) (neg_ℤ s) (with_sign x s m) xs
AllToCome-again P pre s m x xs h e = rw (rest_lists-cons pre x xs, ne_eqb (occurs x xs) 0 h) at e

-- a walk over the places of u, before place i
pub record IsWalk (u : List ℕ) (i : ℕ) (sum : List (List ℕ × ℤ)) (s : ℤ) (bs : List ℤ) : Type 0 where
  pub sums : (phi : List ℕ → ℤ) → value_at phi sum +ℤ to_come (normalized phi) (take i u) s (kept_signs bs) (drop i u) ≡ value_at phi (surjection_boundary u)
  pub faces : AllToCome (IsFace no_sign u) (take i u) s (kept_signs bs) (drop i u)
  pub light : weight_of sum ≤ i
  pub small : nat_abs s ≤ 1
  pub kept_small : (y : ℕ) → nat_abs (kept_signs bs y) ≤ 1

at_place : (u : List ℕ) (i : ℕ) → i < length u → drop i u ≡ get_or u i 0 ∷ drop (suc i) u
at_place u i h = drop-cons u i 0 h

pub face_last : (u : List ℕ) (i : ℕ) (sum : List (List ℕ × ℤ)) (s : ℤ) (bs : List ℤ) → i < length u → occurs (get_or u i 0) (drop (suc i) u) ≡ 0 → IsWalk u i sum s bs → is_zero (neg_ℤ (kept_signs bs (get_or u i 0))) ≡ false → IsFace no_sign u (remove u i)
face_last u i sum s bs h t w n =
    let f : AllToCome (IsFace no_sign u) (take i u) s (kept_signs bs) (get_or u i 0 ∷ drop (suc i) u) = rw (at_place u i h) at w.faces in
    (AllToCome-last (IsFace no_sign u) (take i u) s (kept_signs bs) (get_or u i 0) (drop (suc i) u) t f).0 n

pub face_again : (u : List ℕ) (i : ℕ) (sum : List (List ℕ × ℤ)) (s : ℤ) (bs : List ℤ) → i < length u → occurs (get_or u i 0) (drop (suc i) u) ≢ 0 → IsWalk u i sum s bs → is_zero s ≡ false → IsFace no_sign u (remove u i)
face_again u i sum s bs h t w n =
    let f : AllToCome (IsFace no_sign u) (take i u) s (kept_signs bs) (get_or u i 0 ∷ drop (suc i) u) = rw (at_place u i h) at w.faces in
    (AllToCome-again (IsFace no_sign u) (take i u) s (kept_signs bs) (get_or u i 0) (drop (suc i) u) t f).0 n

pub IsWalk-last : (u : List ℕ) (i : ℕ) (old new : List (List ℕ × ℤ)) (s : ℤ) (bs : List ℤ) → i < length u → occurs (get_or u i 0) (drop (suc i) u) ≡ 0 → IsWalk u i old s bs → AddsList (remove u i) (neg_ℤ (kept_signs bs (get_or u i 0))) old new → IsWalk u (suc i) new s bs
IsWalk-last u i old new s bs h t w a =
    let x : ℕ = get_or u i 0 in
    let e : take (suc i) u ≡ take i u ++ get_or u i 0 ∷ [] = take-suc u i 0 h in
    let f : AllToCome (IsFace no_sign u) (take i u) s (kept_signs bs) (get_or u i 0 ∷ drop (suc i) u) = rw (at_place u i h) at w.faces in
    record {
      sums = λ phi. rw e (
          let q = rw (at_place u i h) at w.sums phi in
          omega (arith, ints, q, a.sums phi, to_come-last (normalized phi) (take i u) s (kept_signs bs) (get_or u i 0) (drop (suc i) u) t));
      faces = rw e ((AllToCome-last (IsFace no_sign u) (take i u) s (kept_signs bs) (get_or u i 0) (drop (suc i) u) t f).1);
      light = omega (arith, a.grows, w.light);
      small = w.small;
      kept_small = w.kept_small;
    }

pub IsWalk-again : (u : List ℕ) (i : ℕ) (old new : List (List ℕ × ℤ)) (s : ℤ) (bs : List ℤ) → i < length u → occurs (get_or u i 0) (drop (suc i) u) ≢ 0 → get_or u i 0 < length bs → IsWalk u i old s bs → AddsList (remove u i) s old new → IsWalk u (suc i) new (neg_ℤ s) (set bs (get_or u i 0) s)
IsWalk-again u i old new s bs h t r w a =
    let e : take (suc i) u ≡ take i u ++ get_or u i 0 ∷ [] = take-suc u i 0 h in
    let k : kept_signs (set bs (get_or u i 0) s) ≡ with_sign (get_or u i 0) s (kept_signs bs) = kept_signs-set bs (get_or u i 0) s r in
    let f : AllToCome (IsFace no_sign u) (take i u) s (kept_signs bs) (get_or u i 0 ∷ drop (suc i) u) = rw (at_place u i h) at w.faces in
    record {
      sums = λ phi. subst (λ (m : ℕ → ℤ). value_at phi new +ℤ to_come (normalized phi) (take (suc i) u) (neg_ℤ s) m (drop (suc i) u) ≡ value_at phi (surjection_boundary u)) (sym k) (rw e (
          let q = rw (at_place u i h) at w.sums phi in
          omega (arith, ints, q, a.sums phi, to_come-again (normalized phi) (take i u) s (kept_signs bs) (get_or u i 0) (drop (suc i) u) t)));
      faces = subst (λ (m : ℕ → ℤ). AllToCome (IsFace no_sign u) (take (suc i) u) (neg_ℤ s) m (drop (suc i) u)) (sym k)
          (rw e ((AllToCome-again (IsFace no_sign u) (take i u) s (kept_signs bs) (get_or u i 0) (drop (suc i) u) t f).1));
      light = omega (arith, a.grows, w.light);
      small = omega (arith, ints, w.small);
      kept_small = λ y. subst (λ (m : ℕ → ℤ). nat_abs (m y) ≤ 1) (sym k) (elim (cases_eq y (get_or u i 0)) [
        | inl c ↦ rw (with_sign-same (get_or u i 0) y s (kept_signs bs) c) w.small
        | inr c ↦ rw (with_sign-other (get_or u i 0) y s (kept_signs bs) c) (w.kept_small y)
      ]);
    }

map_none : (vs : List (List ℕ)) → map (λ v. [] ++ v) vs ≡ vs
map_none [] = refl
map_none (v ∷ vs) = ap (λ w. v ∷ w) (map_none vs)

pub IsWalk-start : (u : List ℕ) (n : ℕ) → IsWalk u 0 [] (pos 1) (replicate n (pos 0))
IsWalk-start u n = record {
  sums = λ phi. subst (λ (m : ℕ → ℤ). value_at phi [] +ℤ to_come (normalized phi) [] (pos 1) m u ≡ value_at phi (surjection_boundary u)) (sym (kept_signs-replicate n))
      (let e : to_come (normalized phi) [] (pos 1) no_sign u ≡ value_at phi (surjection_boundary u) =
      ap (λ vs. weighted_sum (normalized phi) vs (place_signs_from (pos 1) no_sign u)) (map_none (without_each u)) ∙ sym (value_at-nonzero_terms is_degenerate phi (without_each u) (place_signs_from (pos 1) no_sign u)) in
      omega (arith, ints, e));
  faces = subst (λ (m : ℕ → ℤ). AllToCome (IsFace no_sign u) [] (pos 1) m u) (sym (kept_signs-replicate n))
      (subst (λ (vs : List (List ℕ)). EachTerm (IsFace no_sign u) vs (place_signs_from (pos 1) no_sign u)) (sym (map_none (without_each u))) (EachTerm-face (pos 1) no_sign u));
  light = omega arith;
  small = omega arith;
  kept_small = λ y. subst (λ (m : ℕ → ℤ). nat_abs (m y) ≤ 1) (sym (kept_signs-replicate n)) (omega arith);
}

none_to_come : (phi : List ℕ → ℤ) (pre : List ℕ) (s : ℤ) (m : ℕ → ℤ) → to_come phi pre s m [] ≡ pos 0
none_to_come phi pre s m = weighted_sum-nil phi []

drop_past : (u : List ℕ) (i : ℕ) → length u ≤ i → drop i u ≡ []
drop_past [] zero h = refl
drop_past [] (suc i) h = refl
drop_past (x ∷ u) zero h = absurd (omega arith)
drop_past (x ∷ u) (suc i) h = drop_past u i (omega arith)

pub IsWalk-end : (u : List ℕ) (i : ℕ) (sum : List (List ℕ × ℤ)) (s : ℤ) (bs : List ℤ) → length u ≤ i → IsWalk u i sum s bs → IsSameSum sum (surjection_boundary u)
IsWalk-end u i sum s bs h w =
    let d : drop i u ≡ [] = drop_past u i h in
    record { at = λ phi. let q = rw d at w.sums phi in omega (arith, ints, q, none_to_come (normalized phi) (take i u) s (kept_signs bs)) }

pub AddsList-term : (w : List ℕ) (s : ℤ) (old : List (List ℕ × ℤ)) → is_degenerate w ≡ false → nat_abs s ≤ 1 → AddsList w s old (plus_term (slice_cmp nat_cmp) old w s)
AddsList-term w s old d m = record {
  sums = λ phi.
      let a : s *ℤ phi w ≡ s *ℤ normalized phi w = ap (λ z. s *ℤ z) (sym (restricted-there is_degenerate phi w d)) in
      omega (arith, ints, a, value_at-plus_term (slice_cmp nat_cmp) equal_numbers phi old w s);
  grows = omega (arith, weight_of-plus_term (slice_cmp nat_cmp) old w s);
}

pub value_within : (u : List ℕ) (i : ℕ) → IsSurjection u → i < length u → (1 ≤ get_or u i 0) × (get_or u i 0 ≤ arity u)
value_within u i s h = within-at (arity u) u i 0 (onto-within (arity u) u s.onto) h

pub value_below : (u : List ℕ) (i : ℕ) → IsSurjection u → i < length u → get_or u i 0 < 33
value_below u i s h = let b = value_within u i s h in omega (arith, b.1, s.narrow)

-- a face that the walk meets is a surjection, if it is not degenerate
pub face_is : (u : List ℕ) (i : ℕ) → IsSurjection u → IsFace no_sign u (remove u i) → is_degenerate (remove u i) ≡ false → IsSurjection (remove u i)
face_is u i s f p = IsSurjection-face u (remove u i) s f p

-- what the test of the rest says
rest_is : (u : List ℕ) (i x : ℕ) → occurs x (take (length u - (i + 1)) (drop (i + 1) u)) ≡ occurs x (drop (suc i) u)
rest_is u i x = let e : i + 1 ≡ suc i = omega arith in ap (occurs x) (drop_rest u (i + 1)) ∙ ap (λ k. occurs x (drop k u)) e

pub rest_comes : (u : List ℕ) (i x : ℕ) (b : Bool) → b ≡ (occurs x (take (length u - (i + 1)) (drop (i + 1) u)) == 1) → b ≡ true → occurs x (drop (suc i) u) ≢ 0
rest_comes u i x b e t z =
    let o : occurs x (take (length u - (i + 1)) (drop (i + 1) u)) ≡ 1 = eqb-true (occurs x (take (length u - (i + 1)) (drop (i + 1) u))) 1 (sym e ∙ t) in
    absurd (omega (arith, rest_is u i x))

pub rest_gone : (u : List ℕ) (i x : ℕ) (b : Bool) → b ≡ (occurs x (take (length u - (i + 1)) (drop (i + 1) u)) == 1) → b ≡ false → occurs x (drop (suc i) u) ≡ 0
rest_gone u i x b e t = elim (occurs-01 x (drop (suc i) u)) [
  | inl z ↦ z
  | inr o ↦ absurd (eqb-false (occurs x (take (length u - (i + 1)) (drop (i + 1) u))) 1 (sym e ∙ t) (rest_is u i x ∙ o))
]

pub caesura-test : (u : List ℕ) (place : ℕ) (b : Bool) → 1 ≤ place → b ≡ (occurs (get_or u (place - 1) 0) (take (length u - place) (drop place u)) == 1) → (IsTrue b → comes_again u place ≡ 1) × (comes_again u place ≡ 1 → IsTrue b)
caesura-test u zero b h e = absurd (omega arith)
caesura-test u (suc i) b h e =
    let s : suc i - 1 ≡ i = omega arith in
    let same : occurs (get_or u (suc i - 1) 0) (take (length u - suc i) (drop (suc i) u)) ≡ comes_again u (suc i) =
    ap (occurs (get_or u (suc i - 1) 0)) (drop_rest u (suc i)) ∙ ap (λ k. occurs (get_or u k 0) (drop (suc i) u)) s in (
      λ t. sym same ∙ eqb-true (occurs (get_or u (suc i - 1) 0) (take (length u - suc i) (drop (suc i) u))) 1 (sym e ∙ t),
      λ o. e ∙ eq-eqb (occurs (get_or u (suc i - 1) 0) (take (length u - suc i) (drop (suc i) u))) 1 (same ∙ o),
    )

-- a degenerate list adds nothing, and one with the sign 0
pub AddsList-degenerate : (w : List ℕ) (s : ℤ) (old : List (List ℕ × ℤ)) → is_degenerate w ≡ true → AddsList w s old old
AddsList-degenerate w s old d = record {
  sums = λ phi. let a : s *ℤ normalized phi w ≡ s *ℤ pos 0 = ap (λ z. s *ℤ z) (restricted-gone is_degenerate phi w d) in omega (arith, ints, a);
  grows = omega arith;
}
