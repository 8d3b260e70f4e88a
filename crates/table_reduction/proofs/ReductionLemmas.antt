-- The walk over all rows of a tuple, and the laws of its sum.
use Rattle.std.proofs.{Common.{◌≡◌, ℕ, zero, suc, ◌+◌, ◌-◌, ◌<◌, ◌≤◌, ◌==◌, ◌||◌, cond, false, List, [], ◌∷◌, ◌++◌, length, Option, None, Some, is_some, nat_lt, refl, sym, ◌∙◌, ap, subst, inl, inr, arith, ℤ, pos, ◌+ℤ◌, All, find, map, le-ltb, ne_eqb}, lemmas.Bool.cases_Bool, lemmas.Int.ints, lemmas.List.Elements.{All-cons, All-head, All-nil, All-tail, All-weaker}}
use Rattle.barratt_eccles.specs.Generators.{IsGenerator}
use Rattle.table_reduction_law.{specs.Names.{tuple_arity, tuple_degree, binomial, reduced_lists, table_reduction, unused, IsPermutationOf, IsTuple, permuted_tuple, tuple_boundary}, proofs.FormalSums.{reduction_action_law, reduction_boundary_law, value_at-table_reduction}, proofs.ReducedLists.reduced_lists-onto, proofs.ReductionBoundary.reduced-walked, proofs.ReductionWalks.walk, proofs.RowCounts.reduced_lists-length, proofs.UnusedEntries.unused-none}
use Rattle.operad_law.specs.FormalSums.{IsSameSum}
use Rattle.signed_sum.{proofs.Names.{numbers_from-least, occurs-01, range-in}, specs.Names.{IsDistinct, is_degenerate, less, numbers_from, occurs, entry_at, normalized, total, value_at}}
use Rattle.surjection.{proofs.RefusalLemmas.degenerate-is, specs.Names.{arity-is, equal_neighbours_from, gap_fault, gap_of, neighbours_fault, surjection_fault}, specs.declared.surj.NotASurjection.TheVariants.{Empty, TooLong}}
use Rattle.surjection_law.specs.Names.{surjection_boundary, IsOnto, arity}
use Rattle.table_reduction.{proofs.WalkLemmas.needed-ahead, specs.Walks.{AddsLists, needed, weight_needed}}

pub rows-distinct : (r : ℕ) (ws : List (List ℕ)) → IsTuple r ws → All IsDistinct ws
rows-distinct r [] t = All-nil IsDistinct
rows-distinct r (w ∷ ws) t = All-cons IsDistinct w ws t.0.distinct (rows-distinct r ws t.1)

-- ---- what a whole walk needs
find-none : (u : List ℕ) (a n : ℕ) → ((v : ℕ) → a ≤ v → v < a + n → occurs v u ≡ 1) → find (λ w. occurs w u == 0) (numbers_from a n) ≡ None
find-none u a zero h = refl
find-none u a (suc n) h = let o = h a (omega arith) (omega arith) in rw o (find-none u (suc a) n (λ v p q. h v (omega arith) (omega arith)))

not_some : {X : Type 0} (o : Option X) → is_some o ≡ false → o ≡ None
not_some None e = refl
not_some (Some x) e = absurd (cc)

pub faultless : (r : ℕ) (u : List ℕ) → 1 ≤ r → r ≤ 32 → 1 ≤ length u → length u ≤ 255 → IsOnto r u → is_degenerate u ≡ false → surjection_fault u ≡ None
faultless r u one narrow some short onto plain =
    let top : arity u ≡ r = arity-is r u onto one in
    let a : (length u == 0) ≡ false = ne_eqb (length u) 0 (λ e. omega (arith, e, some)) in
    let b = le-ltb 255 (length u) short in
    let c : nat_lt 32 (arity u) ≡ false = le-ltb 32 (arity u) (omega (arith, top)) in
    let low : occurs 0 u ≡ 0 = elim (occurs-01 0 u) [ inl z ↦ z | inr z ↦ absurd (let l : less 0 1 ≡ 0 = numbers_from-least 1 r 0 (sym (onto 0) ∙ z) in cc) ] in
    let gap : gap_of u ≡ None =
    ap (λ n. cond (n == 1) (Some 0) (find (λ v. occurs v u == 0) (numbers_from 1 (arity u - 1)))) low
    ∙ find-none u 1 (arity u - 1) (λ v p q. onto v ∙ range-in v 1 r p (omega (arith, top))) in
    let d : equal_neighbours_from 1 u ≡ None = not_some (equal_neighbours_from 1 u) (sym (degenerate-is 1 u) ∙ plain) in
    λ i. cond (a i) (Some Empty) (cond (b i || c i) (Some TooLong) (gap_fault (gap i) (neighbours_fault (d i))))

one_needed : (r : ℕ) (u : List ℕ) → 1 ≤ r → r ≤ 32 → 1 ≤ length u → length u ≤ 255 → IsOnto r u → weight_needed u ≤ 1
one_needed r u one narrow some short onto = elim (cases_Bool (is_degenerate u)) [
  | inl d ↦ (rw d (omega arith))
  | inr d ↦ let f = faultless r u one narrow some short onto d in (rw (d, f) (omega arith))
]

total-most : (us : List (List ℕ)) → All (λ u. weight_needed u ≤ 1) us → (n : ℕ) → total (λ u. pos (weight_needed u)) us ≡ pos n → n ≤ length us
total-most [] a n e = omega (arith, ints, e)
total-most (u ∷ us) a n e =
    let f = All-head (λ u. weight_needed u ≤ 1) u us a in
    let m = total-nat us in
    omega (arith, ints, e, f, m.1, total-most us (All-tail (λ u. weight_needed u ≤ 1) u us a) m.0 m.1)
  where
    total-nat : (us : List (List ℕ)) → (m : ℕ) × (total (λ u. pos (weight_needed u)) us ≡ pos m)
    total-nat [] = (0, refl)
    total-nat (u ∷ us) = let m = total-nat us in (weight_needed u + m.0, omega (arith, ints, m.1))

-- a walk from the first row on needs no more than the number of lists of row lengths
pub needed-first : (r : ℕ) (w : List ℕ) (ws : List (List ℕ)) → 1 ≤ r → r ≤ 32 → r + length ws ≤ 255 → IsTuple r (w ∷ ws) → needed ws w [] [] ≤ binomial (r + length ws - 1) (length ws)
needed-first zero w ws one narrow short t = absurd (omega arith)
needed-first (suc r) w ws one narrow short t =
    let h : List ℕ → ℤ = λ u. pos (weight_needed u) in
    let rows = reduced-walked (suc r) (w ∷ ws) h one t in
    let none = ap (λ x. walk ws x [] h) (unused-none w) in
    let all : All (λ u. weight_needed u ≤ 1) (reduced_lists (w ∷ ws)) =
    All-weaker (λ u. IsOnto (suc r) u × (length u ≡ suc r + length ws)) (λ u. weight_needed u ≤ 1) (λ u k. one_needed (suc r) u one narrow (omega (arith, k.1)) (omega (arith, k.1)) k.0) (reduced_lists (w ∷ ws)) (reduced_lists-onto (suc r) w ws one t) in
    let e : total h (reduced_lists (w ∷ ws)) ≡ pos (needed ws w [] []) = omega (arith, ints, rows, none, needed-ahead ws w [] []) in
    let n : suc r + length ws - 1 ≡ r + length ws = omega arith in
    omega (arith, total-most (reduced_lists (w ∷ ws)) all (needed ws w [] []) e, reduced_lists-length r w ws t, ap (λ k. binomial k (length ws)) n)

pub needed-entries : (entries ws : List (List ℕ)) (w row used values : List ℕ) → entries ≡ w ∷ ws → row ≡ w → used ≡ [] → values ≡ [] → 1 ≤ tuple_arity entries → tuple_arity entries ≤ 32 →
    tuple_arity entries + tuple_degree entries ≤ 255 → IsTuple (tuple_arity entries) entries → needed ws row used values ≤ binomial (tuple_arity entries + tuple_degree entries - 1) (tuple_degree entries)
needed-entries entries ws w row used values e q u v one narrow short t =
    let d : tuple_degree entries ≡ length ws = omega (arith, ap length e) in
    let n : needed ws row used values ≡ needed ws w [] [] = λ i. needed ws (q i) (u i) (v i) in
    let bound = needed-first (tuple_arity entries) w ws one narrow (omega (arith, d, short)) (subst (IsTuple (tuple_arity entries)) e t) in
    omega (arith, n, bound, ap (λ k. binomial (tuple_arity entries + k - 1) k) d)

-- the walk from the first row on gives the reduction
pub reduces : (entries ws : List (List ℕ)) (w row used values : List ℕ) (old new sum : List (List ℕ × ℤ)) (r : ℕ) → entries ≡ w ∷ ws → row ≡ w → used ≡ [] → values ≡ [] → old ≡ [] →
    1 ≤ r → IsTuple r entries → AddsLists ws row used values old new → sum ≡ new → IsSameSum sum (table_reduction entries)
reduces entries ws w row used values old new sum r e q u v o k t a s = record {
  at = λ phi.
      let start : value_at phi new ≡ pos 0 +ℤ walk ws (unused [] w) [] (normalized phi) =
      a.at phi ∙ (λ i. value_at phi (o i) +ℤ walk ws (unused (u i) (q i)) (u i) (λ x. normalized phi (v i ++ x))) in
      let none = ap (λ x. walk ws x [] (normalized phi)) (unused-none w) in
      let value = value_at-table_reduction phi (w ∷ ws) in
      let rows = reduced-walked r (w ∷ ws) (normalized phi) k (subst (IsTuple r) e t) in
      omega (arith, ints, start, none, value, rows, ap (value_at phi) s, ap (λ x. value_at phi (table_reduction x)) e);
}

pub reduces-boundary : (w : List (List ℕ)) (s : List (List ℕ × ℤ)) → IsGenerator w → IsSameSum s (table_reduction w) → (h : List ℕ → ℤ) →
    value_at (λ u. value_at h (surjection_boundary u)) s ≡ value_at (λ v. value_at h (table_reduction v)) (tuple_boundary w)
reduces-boundary w s g a h = a.at (λ u. value_at h (surjection_boundary u)) ∙ reduction_boundary_law (tuple_arity w) w h g.wide g.entries

pub reduces-action : (w : List (List ℕ)) (s : List (List ℕ × ℤ)) → IsGenerator w → IsSameSum s (table_reduction w) → (t : List ℕ) (h : List ℕ → ℤ) → IsPermutationOf (tuple_arity w) t →
    value_at h (table_reduction (permuted_tuple t w)) ≡ value_at (λ u. h (map (entry_at t) u)) s
reduces-action w s g a t h k = reduction_action_law (tuple_arity w) t w h g.wide k g.entries ∙ sym (a.at (λ u. h (map (entry_at t) u)))
