-- Equal neighbours and gaps, step by step; and that a list without a fault is a surjection.
use Rattle.std.proofs.{Common.{◌≡◌, ℕ, zero, suc, ◌+◌, ◌-◌, ◌<◌, ◌≤◌, ◌==◌, max, true, false, List, [], ◌∷◌, length, drop, None, Some, is_some, refl, sym, ap, ◌∙◌, inl, inr, arith, find, ne_eqb, eqb-true}, lemmas.Bool.{cases_Bool, cases_eq, eqb-false}}
use Rattle.signed_sum.{specs.Names.{begins_with, is_degenerate, numbers_from, occurs}, proofs.Names.{occurs-01, occurs-mid, occurs-range}}
use Rattle.surjection_law.specs.Names.{IsOnto, IsSurjection, arity}
use Rattle.surjection.specs.{ActionLaws.occurs-arity, Names.{equal_neighbours_from, gap_of}}

-- ---- equal neighbours

pub neighbours-end : (xs : List ℕ) (i from : ℕ) → length xs ≤ i + 1 → equal_neighbours_from from (drop i xs) ≡ None
neighbours-end [] zero from h = refl
neighbours-end [] (suc i) from h = refl
neighbours-end (x ∷ []) zero from h = refl
neighbours-end (x ∷ y ∷ ys) zero from h = absurd (omega arith)
neighbours-end (x ∷ xs) (suc i) from h = neighbours-end xs i from (omega arith)

pub degenerate-is : (from : ℕ) (xs : List ℕ) → is_degenerate xs ≡ is_some (equal_neighbours_from from xs)
degenerate-is from [] = refl
degenerate-is from (x ∷ xs) = elim (cases_Bool (begins_with x xs)) [
  | inl e ↦ rw e refl
  | inr e ↦ rw e (degenerate-is (suc from) xs)
]

-- ---- gaps
pub gap-found : (u : List ℕ) (v most : ℕ) → v < most → (occurs v u == 1) ≡ false → find (λ w. occurs w u == 0) (numbers_from v (most - v)) ≡ Some v
gap-found u v most h n =
    let e : most - v ≡ suc (most - suc v) = omega arith in
    let z : occurs v u ≡ 0 = elim (occurs-01 v u) [ inl z ↦ z | inr o ↦ absurd (eqb-false (occurs v u) 1 n o) ] in
    rw (e, z) refl

pub gap-next : (u : List ℕ) (v most : ℕ) → v < most → (occurs v u == 1) ≡ true → find (λ w. occurs w u == 0) (numbers_from v (most - v)) ≡ find (λ w. occurs w u == 0) (numbers_from (v + 1) (most - (v + 1)))
gap-next u v most h n =
    let e : most - v ≡ suc (most - (v + 1)) = omega arith in
    let s : suc v ≡ v + 1 = omega arith in
    let o : occurs v u ≡ 1 = eqb-true (occurs v u) 1 n in
    rw (e, o) (ap (λ k. find (λ w. occurs w u == 0) (numbers_from k (most - (v + 1)))) s)

-- ---- no fault
find-none : (u : List ℕ) (a n v : ℕ) → find (λ w. occurs w u == 0) (numbers_from a n) ≡ None → a ≤ v → v < a + n → occurs v u ≡ 1
find-none u a zero v e h k = absurd (omega arith)
find-none u a (suc n) v e h k = elim (cases_Bool (occurs a u == 0)) [
  | inl z ↦ absurd (let s : find (λ w. occurs w u == 0) (numbers_from a (suc n)) ≡ Some a = rw z refl in cc)
  | inr z ↦
      let r : find (λ w. occurs w u == 0) (numbers_from (suc a) n) ≡ None = rw z at e in
      elim (cases_eq v a) [
        | inl q ↦ elim (occurs-01 a u) [ inl o ↦ absurd (eqb-false (occurs a u) 0 z o) | inr o ↦ ap (λ w. occurs w u) q ∙ o ]
        | inr q ↦ find-none u (suc a) n v r (omega arith) (omega arith)
      ]
]

arity-occurs : (u : List ℕ) → 1 ≤ length u → occurs (arity u) u ≡ 1
arity-occurs [] h = absurd (omega arith)
arity-occurs (x ∷ []) h = let e : max x 0 ≡ x = omega arith in rw e (occurs-mid x [] [])
arity-occurs (x ∷ y ∷ u) h = elim (cases_eq (arity (x ∷ y ∷ u)) x) [
  | inl e ↦ ap (λ w. occurs w (x ∷ y ∷ u)) e ∙ occurs-mid x [] (y ∷ u)
  | inr n ↦
      let e : arity (x ∷ y ∷ u) ≡ arity (y ∷ u) = omega arith in
      rw (ne_eqb (arity (x ∷ y ∷ u)) x n) (ap (λ w. occurs w (y ∷ u)) e ∙ arity-occurs (y ∷ u) (omega arith))
]

-- without a gap each value from 1 to the greatest comes, and no other
no_gap : (u : List ℕ) → 1 ≤ length u → gap_of u ≡ None → IsOnto (arity u) u
no_gap u some e v = elim (cases_Bool (occurs 0 u == 1)) [
  | inl z ↦ absurd (let s : gap_of u ≡ Some 0 = rw z refl in cc)
  | inr z ↦
      let r : find (λ w. occurs w u == 0) (numbers_from 1 (arity u - 1)) ≡ None = rw z at e in
      let none : occurs 0 u ≡ 0 = elim (occurs-01 0 u) [ inl k ↦ k | inr k ↦ absurd (eqb-false (occurs 0 u) 1 z k) ] in
      occurs-range 1 (arity u) u
      (λ w o. (
        elim (cases_eq w 0) [ inl q ↦ absurd (let k : occurs 0 u ≡ 1 = ap (λ x. occurs x u) (sym q) ∙ o in omega arith) | inr q ↦ omega arith ],
        omega (arith, occurs-arity w u o),
      ))
      (λ w a b. elim (cases_eq w (arity u)) [
        | inl top ↦ ap (λ x. occurs x u) top ∙ arity-occurs u some
        | inr n ↦ find-none u 1 (arity u - 1) w r a (omega arith)
      ]) v
]

pub no_fault : (u : List ℕ) → 1 ≤ length u → length u ≤ 255 → arity u ≤ 32 → gap_of u ≡ None → equal_neighbours_from 1 u ≡ None → IsSurjection u
no_fault u a b c d e = record {
  some = a;
  short = b;
  narrow = c;
  onto = no_gap u a d;
  plain = degenerate-is 1 u ∙ ap is_some e;
}

pub not_empty : (u : List ℕ) → (length u == 0) ≡ false → 1 ≤ length u
not_empty u e = elim (cases_eq (length u) 0) [ inl z ↦ absurd (eqb-false (length u) 0 e z) | inr n ↦ omega arith ]

pub gap-later : (u : List ℕ) → (occurs 0 u == 1) ≡ false → gap_of u ≡ find (λ v. occurs v u == 0) (numbers_from 1 (arity u - 1))
gap-later u e = rw e refl
