-- The steps of a walk over pairs of powers of the cycle.
use native.Mathlib.Decide.{ℕ_discrete}
use Rattle.std.{proofs.Common.{◌≡◌, ◌≢◌, ◌⊎◌, ℕ, zero, suc, ◌+◌, ◌-◌, ◌*◌, ◌/◌, ◌<◌, ◌≤◌, ◌==◌, cond, true, false, List, [], ◌∷◌, ◌++◌, length, length-append, map, Option, None, Some, MatchOption, Bool, Ordering, Equal, eqb-true, refl, sym, ◌∙◌, ap, subst, inl, inr, arith, eq-eqb, ne_eqb, ℤ, pos, negsuc, ◌+ℤ◌, append-nil}, proofs.lemmas.Bool.{or_left, or_right}, proofs.lemmas.Int.ints, proofs.lemmas.List.map-append, proofs.lemmas.List.Sorted.sum_by-IsPermutation, proofs.lemmas.List.Sums.sum_by-cons, specs.List.Sorted.IsPermutation, specs.Borrow.Bor, specs.List.{IsFirstAndRest, sum_by}}
use Rattle.surjection.specs.Names.{surjection_fault}
use Rattle.operad_law.{proofs.PlusTerm.value_at-plus_term, specs.FormalSums.plus_term}
use Rattle.signed_sum.{proofs.Names.{fun_ext, one-mul, occurs-01, occurs-mid, occurs-other, occurs-self, restricted-gone, restricted-there, total-append}, specs.Names.{IsDistinct, begins_with, cycle, cycle_power, is_degenerate, normalized, numbers_from, occurs, restricted, total, value_at}}
use Rattle.table_reduction.{specs.Walks.{ahead, is_last}, proofs.ReductionLemmas.faultless, proofs.WalkLemmas.{adds-pruned, occurs-no, ahead-both, ahead-last, ahead-used, plain-more, walk-from_nothing, walk-nothing}}
use Rattle.table_reduction_law.{proofs.MayBoundary.tuple-append, proofs.PowerPairs.{may_sum, pair_sum, pairs-cong, pairs-plus, power-perm, sum-cong, sum_below}, proofs.ReductionBoundary.{permutation-length, reduced-walked, reduction_sum}, proofs.ReductionWalks.walk, proofs.UnusedEntries.{unused-absent, unused-cons, unused-distinct, unused-none}, specs.Names.{IsPermutationOf, IsTuple, cons_if_zero, leading_entries, unused}}
use Rattle.may_elements.{proofs.ElementLemmas.pair_count-half, specs.Pairs.{AddsBelow, AddsLists, IsAt, IsBegun, unless_out}}

-- ---- a row that the next one repeats
degenerate-cons : (x : ℕ) (u : List ℕ) → is_degenerate u ≡ true → is_degenerate (x ∷ u) ≡ true
degenerate-cons x u d = or_right (begins_with x u) (is_degenerate u) d

degenerate-behind : (v u : List ℕ) → is_degenerate u ≡ true → is_degenerate (v ++ u) ≡ true
degenerate-behind [] u d = d
degenerate-behind (x ∷ v) u d = degenerate-cons x (v ++ u) (degenerate-behind v u d)

-- the next row begins with what ends this one
walk-again : (xs w : List ℕ) (ws : List (List ℕ)) (a : List ℕ) (f : List ℕ → ℤ) → unused a w ≡ xs → IsDistinct xs → ((u : List ℕ) → is_degenerate u ≡ true → f u ≡ pos 0) → walk (w ∷ ws) xs a f ≡ pos 0
walk-again [] w ws a f e d z = refl
walk-again (x ∷ xs) w ws a f e d z =
    let twice : (u : List ℕ) → is_degenerate (x ∷ x ∷ u) ≡ true = λ u. or_left (x == x) (is_degenerate (x ∷ u)) (eq-eqb x x refl) in
    let first = ap (λ r. walk ws r a (λ u. f (x ∷ u))) e ∙ walk-from_nothing ws x xs a (λ u. f (x ∷ u)) (λ u. z (x ∷ x ∷ u) (twice u)) in
    let rest : unused (x ∷ a) w ≡ xs =
    sym (unused-cons x a w) ∙ ap (unused (x ∷ [])) e ∙ ap (λ n. cons_if_zero n x (unused (x ∷ []) xs)) (occurs-self x []) ∙ unused-absent x xs d.0 in
    omega (arith, ints, first, walk-again xs w ws (x ∷ a) (λ u. f (x ∷ u)) rest d.1 (λ u q. z (x ∷ u) (degenerate-cons x u q)))

ahead-again : (w : List ℕ) (ws : List (List ℕ)) (left used values : List ℕ) (phi : List ℕ → ℤ) → unused used w ≡ unused used left → IsDistinct left → ahead (w ∷ ws) left used values (normalized phi) ≡ pos 0
ahead-again w ws left used values phi e d =
    walk-again (unused used left) w ws used (λ u. normalized phi (values ++ u)) e (unused-distinct used left d)
    (λ u q. restricted-gone is_degenerate phi (values ++ u) (degenerate-behind values u q))

unused-behind : (x : ℕ) (a u : List ℕ) → occurs x a ≡ 1 → unused a (u ++ (x ∷ [])) ≡ unused a u
unused-behind x a [] o = ap (λ n. cons_if_zero n x []) o
unused-behind x a (y ∷ u) o = ap (cons_if_zero (occurs y a) y) (unused-behind x a u o)

-- a row x, rest before the row rest, x
pair-used : (x : ℕ) (rest : List ℕ) (ws : List (List ℕ)) (used values : List ℕ) (phi : List ℕ → ℤ) → occurs x used ≡ 1 → IsDistinct (x ∷ rest) →
    ahead ((rest ++ (x ∷ [])) ∷ ws) (x ∷ rest) used values (normalized phi) ≡ pos 0
pair-used x rest ws used values phi o d =
    ahead-again (rest ++ (x ∷ [])) ws (x ∷ rest) used values phi (unused-behind x used rest o ∙ sym (ap (λ n. cons_if_zero n x (unused used rest)) o)) d

pair-last : (x : ℕ) (rest w : List ℕ) (ws : List (List ℕ)) (used values : List ℕ) (phi : List ℕ → ℤ) → occurs x used ≡ 0 → is_last x values ≡ true →
    ahead (w ∷ ws) (x ∷ rest) used values (normalized phi) ≡ pos 0
pair-last x rest w ws used values phi o l = let a = (adds-pruned (w ∷ ws) x rest used values [] o l).at phi in omega (arith, ints, a)

pair-written : (x : ℕ) (rest : List ℕ) (ws : List (List ℕ)) (used values : List ℕ) (phi : List ℕ → ℤ) → occurs x used ≡ 0 → IsDistinct (x ∷ rest) →
    ahead ((rest ++ (x ∷ [])) ∷ ws) (x ∷ rest) used values (normalized phi) ≡ ahead ws (rest ++ (x ∷ [])) used (values ++ (x ∷ [])) (normalized phi)
pair-written x rest ws used values phi o d =
    let gone = ahead-again (rest ++ (x ∷ [])) ws rest (used ++ (x ∷ [])) (values ++ (x ∷ [])) phi (unused-behind x (used ++ (x ∷ [])) rest (occurs-mid x used [])) d.1 in
    omega (arith, ints, ahead-both (rest ++ (x ∷ [])) ws x rest used values (normalized phi) o d.0, gone)

-- ---- powers of the cycle: the next one has the first entry last
cycled-range : (p a m : ℕ) → a + m ≡ p → map (cycle p) (numbers_from a (suc m)) ≡ numbers_from (suc a) m ++ (1 ∷ [])
cycled-range p a zero h = ap (λ b. cond b 1 (suc a) ∷ []) (eq-eqb a p (omega (arith, h)))
cycled-range p a (suc m) h = λ i. cond (ne_eqb a p (λ e. omega (arith, e, h)) i) 1 (suc a) ∷ cycled-range p (suc a) m (omega (arith, h)) i

record Turned (p e : ℕ) : Type 0 where
  rest : List ℕ
  here : cycle_power p e ≡ suc e ∷ rest
  next : cycle_power p (suc e) ≡ rest ++ (suc e ∷ [])

turned : (p e : ℕ) → e < p → Turned p e
turned zero e h = absurd (omega arith)
turned (suc p) zero h = record { rest = numbers_from 2 p; here = refl; next = cycled-range (suc p) 1 p (omega arith) }
turned (suc p) (suc e) h =
    let t = turned (suc p) e (omega arith) in
    let up : cycle (suc p) (suc e) ≡ suc (suc e) = ap (λ b. cond b 1 (suc (suc e))) (ne_eqb (suc e) (suc p) (λ q. omega (arith, q, h))) in
    record {
      rest = map (cycle (suc p)) t.rest;
      here = ap (map (cycle (suc p))) t.here ∙ ap (λ x. x ∷ map (cycle (suc p)) t.rest) up;
      next = ap (map (cycle (suc p))) t.next ∙ map-append (cycle (suc p)) t.rest (suc e ∷ []) ∙ ap (λ x. map (cycle (suc p)) t.rest ++ (x ∷ [])) up;
    }

turned-distinct : (p e : ℕ) (t : Turned p e) → IsDistinct (suc e ∷ t.rest)
turned-distinct p e t = subst IsDistinct t.here (power-perm p e).distinct

-- ---- sums over pairs
sum-nothing : (n : ℕ) → sum_below n (λ e. pos 0) ≡ pos 0
sum-nothing zero = refl
sum-nothing (suc n) = omega (arith, ints, sum-nothing n)

pairs-nothing : (p k : ℕ) → pair_sum p k (λ t. pos 0) ≡ pos 0
pairs-nothing p zero = refl
pairs-nothing p (suc k) = sum-cong p (λ e. pair_sum p k (λ t. pos 0)) (λ e. pos 0) (λ e. pairs-nothing p k) ∙ sum-nothing p

pairs-gone : (p k : ℕ) (f : List (List ℕ) → ℤ) → ((t : List (List ℕ)) → f t ≡ pos 0) → pair_sum p k f ≡ pos 0
pairs-gone p k f z = ap (pair_sum p k) (fun_ext z) ∙ pairs-nothing p k

adds-none : (out : List ℕ → Bool) (p k : ℕ) (later : List (List ℕ)) (left used values : List ℕ) (lists : List (List ℕ)) →
    ((phi : List ℕ → ℤ) (t : List (List ℕ)) → ahead (later ++ t) left used values (normalized (restricted out phi)) ≡ pos 0) → AddsLists out p k later left used values lists lists
adds-none out p k later left used values lists z = record { at = λ phi. omega (arith, ints, pairs-gone p k (λ t. ahead (later ++ t) left used values (normalized (restricted out phi))) (z phi)) }

adds-same : (out : List ℕ → Bool) (p k : ℕ) (later next : List (List ℕ)) (left rest used values written : List ℕ) (old new : List (List ℕ)) →
    ((phi : List ℕ → ℤ) (t : List (List ℕ)) → ahead (later ++ t) left used values (normalized phi) ≡ ahead (next ++ t) rest used written (normalized phi)) →
    AddsLists out p k next rest used written old new → AddsLists out p k later left used values old new
adds-same out p k later next left rest used values written old new s a = record { at = λ phi. omega (arith, ints, a.at phi, ap (pair_sum p k) (fun_ext (s (restricted out phi)))) }

-- ---- the steps
-- what the tests of the code find
pub is-used : (x v : ℕ) (u used : List ℕ) (found : Bool) → v ≡ x → u ≡ used → found ≡ (occurs v u == 1) → found ≡ true → occurs x used ≡ 1
is-used x v u used found e q a b = eqb-true (occurs x used) 1 ((λ i. occurs (sym e i) (sym q i) == 1) ∙ sym a ∙ b)

pub is-free : (x v : ℕ) (u used : List ℕ) (found : Bool) → v ≡ x → u ≡ used → found ≡ (occurs v u == 1) → found ≡ false → occurs x used ≡ 0
is-free x v u used found e q a b = occurs-no x used ((λ i. occurs (sym e i) (sym q i) == 1) ∙ sym a ∙ b)

pub is-end : (x v : ℕ) (u values : List ℕ) (found b : Bool) → v ≡ x → u ≡ values → found ≡ is_last v u → found ≡ b → is_last x values ≡ b
is-end x v u values found b e q a f = (λ i. is_last (sym e i) (sym q i)) ∙ sym a ∙ f

pub no_entry : (left : List ℕ) (r : Option (Bor ℕ × Bor (List ℕ))) → MatchOption r (length left ≡ 0) (λ p. IsFirstAndRest left p.0.now p.1.now) →
    ((p : Bor ℕ × Bor (List ℕ)) → r ≡ Some p → ⊥) → left ≡ []
no_entry [] r h n = refl
no_entry (x ∷ left) None h n = absurd (omega arith)
no_entry (x ∷ left) (Some p) h n = absurd (n p refl)

-- a row is at its end, and pairs are missing
pub adds-missing : (out : List ℕ → Bool) (p k : ℕ) (used values : List ℕ) (lists : List (List ℕ)) → k ≢ 0 → AddsLists out p k [] [] used values lists lists
adds-missing out p zero used values lists n = absurd (n refl)
adds-missing out p (suc k) used values lists n = record {
  at = λ phi.
      let z = sum-cong p (λ e. pair_sum p k (λ t. pos 0)) (λ e. pos 0) (λ e. pairs-nothing p k) ∙ sum-nothing p in
      omega (arith, ints, z);
}

-- the list that is written is complete
pub adds-one : (out : List ℕ → Bool) (p k : ℕ) (used values : List ℕ) (old new : List (List ℕ)) → k ≡ 0 → is_degenerate values ≡ false → new ≡ old ++ unless_out out values → AddsLists out p k [] [] used values old new
adds-one out p k used values old new z d n = record {
  at = λ phi.
      let h = restricted out phi in
      let b : normalized h (values ++ []) ≡ h values = ap (normalized h) (append-nil values) ∙ restricted-there is_degenerate h values d in
      let c = ap (λ k. pair_sum p k (λ t. ahead t [] used values (normalized h))) z in
      omega (arith, ints, ap (total phi) n, total-append phi old (unless_out out values), one phi, b, c);
}
  where
    one : (phi : List ℕ → ℤ) → total phi (unless_out out values) ≡ restricted out phi values
    one phi = elim (out values) as (λ b. total phi (cond b [] (values ∷ [])) ≡ cond b (pos 0) (phi values)) [ true ↦ refl | false ↦ omega (arith, ints) ]

-- no list that begins so is wanted
pub adds-out : (out : List ℕ → Bool) (p k : ℕ) (left used values : List ℕ) (lists : List (List ℕ)) → ((w : List ℕ) → out (values ++ w) ≡ true) → AddsLists out p k [] left used values lists lists
adds-out out p k left used values lists o =
    adds-none out p k [] left used values lists (λ phi t. walk-nothing t (unused used left) used (λ u. normalized (restricted out phi) (values ++ u))
    (λ u. none (is_degenerate (values ++ u)) (restricted out phi (values ++ u)) (restricted-gone out phi (values ++ u) (o u))))
  where
    none : (b : Bool) (x : ℤ) → x ≡ pos 0 → cond b (pos 0) x ≡ pos 0
    none true x e = refl
    none false x e = e

pub adds-skipped : (out : List ℕ → Bool) (p k x : ℕ) (left used values : List ℕ) (old new : List (List ℕ)) → occurs x used ≡ 1 → AddsLists out p k [] left used values old new → AddsLists out p k [] (x ∷ left) used values old new
adds-skipped out p k x left used values old new o a = adds-same out p k [] [] (x ∷ left) left used values values old new (λ phi t. ahead-used t x left used values (normalized phi) o) a

pub adds-pruned_here : (out : List ℕ → Bool) (p k x : ℕ) (left used values : List ℕ) (lists : List (List ℕ)) → occurs x used ≡ 0 → is_last x values ≡ true → AddsLists out p k [] (x ∷ left) used values lists lists
adds-pruned_here out p k x left used values lists o l =
    adds-none out p k [] (x ∷ left) used values lists (λ phi t. let a = (adds-pruned t x left used values [] o l).at (restricted out phi) in omega (arith, ints, a))

-- an entry of the last row
pub adds-in_last : (out : List ℕ → Bool) (p k x : ℕ) (left used values written : List ℕ) (old new : List (List ℕ)) → k ≡ 0 → written ≡ values ++ (x ∷ []) → occurs x used ≡ 0 →
    AddsLists out p k [] left used written old new → AddsLists out p k [] (x ∷ left) used values old new
adds-in_last out p k x left used values written old new z w o b = record {
  at = λ phi.
      let h = normalized (restricted out phi) in
      let a : AddsLists out p k [] left used (values ++ (x ∷ [])) old new = subst (λ (y : List ℕ). AddsLists out p k [] left used y old new) w b in
      let d = ap (λ k. pair_sum p k (λ t. ahead t (x ∷ left) used values h)) z in
      let c = ap (λ k. pair_sum p k (λ t. ahead t left used (values ++ (x ∷ [])) h)) z in
      omega (arith, ints, a.at phi, d, c, ahead-last x left used values h o);
}

-- an entry that ends its row, or is used
adds-both : (out : List ℕ → Bool) (p k x : ℕ) (left used values : List ℕ) (old middle new : List (List ℕ)) → occurs x used ≡ 0 → occurs x left ≡ 0 →
    AddsBelow out p k p used (values ++ (x ∷ [])) old middle → AddsLists out p (suc k) [] left (used ++ (x ∷ [])) (values ++ (x ∷ [])) middle new → AddsLists out p (suc k) [] (x ∷ left) used values old new
adds-both out p k x left used values old middle new o n a b = record {
  at = λ phi.
      let h = normalized (restricted out phi) in
      let first : List (List ℕ) → ℤ = λ t. started t used (values ++ (x ∷ [])) h in
      let second : List (List ℕ) → ℤ = λ t. ahead t left (used ++ (x ∷ [])) (values ++ (x ∷ [])) h in
      let both : pair_sum p (suc k) (λ t. ahead t (x ∷ left) used values h) ≡ pair_sum p (suc k) (λ t. first t +ℤ second t) =
      sum-cong p _ _ (λ e. ap (pair_sum p k) (fun_ext (λ t. ahead-both (cycle_power p e) (cycle_power p (suc e) ∷ t) x left used values h o n))) in
      omega (arith, ints, a.at phi, b.at phi, both, pairs-plus p (suc k) first second);
}
  where
    started : List (List ℕ) → List ℕ → List ℕ → (List ℕ → ℤ) → ℤ
    started [] used values h = pos 0
    started (w ∷ ws) used values h = ahead ws w used values h

pub adds-steps : (out : List ℕ → Bool) (p k x : ℕ) (left used used_after used_now values values_now values_after : List ℕ) (old middle new : List (List ℕ)) → k ≢ 0 →
    values_now ≡ values ++ (x ∷ []) → values_after ≡ values_now → used_after ≡ used → used_now ≡ used_after ++ (x ∷ []) → occurs x used ≡ 0 → occurs x left ≡ 0 →
    AddsBelow out p (k - 1) p used values_now old middle → AddsLists out p k [] left used_now values_after middle new → AddsLists out p k [] (x ∷ left) used values old new
adds-steps out p zero x left used used_after used_now values values_now values_after old middle new z n v u m o d a b = absurd (z refl)
adds-steps out p (suc k) x left used used_after used_now values values_now values_after old middle new z n v u m o d a b =
    let e : suc k - 1 ≡ k = omega arith in
    let first : AddsBelow out p k p used (values ++ (x ∷ [])) old middle =
    subst (λ (y : List ℕ). AddsBelow out p k p used y old middle) n (subst (λ (j : ℕ). AddsBelow out p j p used values_now old middle) e a) in
    let second : AddsLists out p (suc k) [] left (used ++ (x ∷ [])) (values ++ (x ∷ [])) middle new =
    subst (λ (y : List ℕ). AddsLists out p (suc k) [] left y (values ++ (x ∷ [])) middle new) (m ∙ ap (λ y. y ++ (x ∷ [])) u)
    (subst (λ (y : List ℕ). AddsLists out p (suc k) [] left used_now y middle new) (v ∙ n) b) in
    adds-both out p k x left used values old middle new o d first second

pub below-none : (out : List ℕ → Bool) (p k : ℕ) (used values : List ℕ) (lists : List (List ℕ)) → AddsBelow out p k 0 used values lists lists
below-none out p k used values lists = record { at = λ phi. omega (arith, ints) }

pub below-more : (out : List ℕ → Bool) (p k n : ℕ) (used used_now values values_now : List ℕ) (old middle new : List (List ℕ)) → used_now ≡ used → values_now ≡ values → AddsBelow out p k n used values old middle →
    AddsLists out p k (cycle_power p (suc n) ∷ []) (cycle_power p n) used_now values_now middle new → AddsBelow out p k (n + 1) used values old new
below-more out p k n used used_now values values_now old middle new u v a b =
    let more : AddsBelow out p k (suc n) used values old new = record {
      at = λ phi.
          let here : pair_sum p k (λ t. ahead (cycle_power p (suc n) ∷ t) (cycle_power p n) used_now values_now (normalized (restricted out phi)))
          ≡ pair_sum p k (λ t. ahead (cycle_power p (suc n) ∷ t) (cycle_power p n) used values (normalized (restricted out phi))) =
          λ i. pair_sum p k (λ t. ahead (cycle_power p (suc n) ∷ t) (cycle_power p n) (u i) (v i) (normalized (restricted out phi))) in
          omega (arith, ints, a.at phi, b.at phi, here);
    } in
    let next : suc n ≡ n + 1 = omega arith in
    subst (λ (m : ℕ). AddsBelow out p k m used values old new) next more

in_pair : (out : List ℕ → Bool) (p k e : ℕ) (used values : List ℕ) (old new : List (List ℕ)) (t : Turned p e) →
    AddsLists out p k ((t.rest ++ (suc e ∷ [])) ∷ []) (suc e ∷ t.rest) used values old new → AddsLists out p k (cycle_power p (suc e) ∷ []) (cycle_power p e) used values old new
in_pair out p k e used values old new t a =
    subst (λ (u : List ℕ). AddsLists out p k (u ∷ []) (cycle_power p e) used values old new) (sym t.next)
    (subst (λ (r : List ℕ). AddsLists out p k ((t.rest ++ (suc e ∷ [])) ∷ []) r used values old new) (sym t.here) a)

-- a pair whose first entry is used, or ends the list
pub adds-no_pair : (out : List ℕ → Bool) (p k e : ℕ) (used values : List ℕ) (lists : List (List ℕ)) → e < p → (occurs (suc e) used ≡ 1) ⊎ ((occurs (suc e) used ≡ 0) × (is_last (suc e) values ≡ true)) →
    AddsLists out p k (cycle_power p (suc e) ∷ []) (cycle_power p e) used values lists lists
adds-no_pair out p k e used values lists h c =
    let t = turned p e h in
    let next : List ℕ = t.rest ++ (suc e ∷ []) in
    in_pair out p k e used values lists lists t (adds-none out p k (next ∷ []) (suc e ∷ t.rest) used values lists (λ phi ws. elim c [
      | inl o ↦ pair-used (suc e) t.rest ws used values (restricted out phi) o (turned-distinct p e t)
      | inr q ↦ pair-last (suc e) t.rest next ws used values (restricted out phi) q.0 q.1
    ]))

pub adds-pair : (out : List ℕ → Bool) (p k e : ℕ) (row used values written : List ℕ) (old new : List (List ℕ)) → e < p → occurs (suc e) used ≡ 0 → row ≡ cycle_power p (suc e) → written ≡ values ++ (suc e ∷ []) →
    AddsLists out p k [] row used written old new → AddsLists out p k (cycle_power p (suc e) ∷ []) (cycle_power p e) used values old new
adds-pair out p k e row used values written old new h o r w a =
    let t = turned p e h in
    let next : List ℕ = t.rest ++ (suc e ∷ []) in
    let b : AddsLists out p k [] next used (values ++ (suc e ∷ [])) old new =
    subst (λ (u : List ℕ). AddsLists out p k [] u used (values ++ (suc e ∷ [])) old new) (r ∙ t.next) (subst (λ (v : List ℕ). AddsLists out p k [] row used v old new) w a) in
    in_pair out p k e used values old new t
    (adds-same out p k (next ∷ []) [] (suc e ∷ t.rest) next used values (values ++ (suc e ∷ [])) old new (λ phi ws. pair-written (suc e) t.rest ws used values phi o (turned-distinct p e t)) b)

-- ---- what is written
behind : (v x : ℕ) (u w : List ℕ) → ((v ≡ x) × (occurs v (u ++ (x ∷ [])) ≡ 1) × (occurs v (x ∷ w) ≡ 1)) ⊎ ((occurs v (u ++ (x ∷ [])) ≡ occurs v u) × (occurs v (x ∷ w) ≡ occurs v w))
behind v x u w = elim (ℕ_discrete v x) [
  | yes e ↦ inl (e, ap (λ y. occurs y (u ++ (x ∷ []))) e ∙ occurs-mid x u [], ap (λ y. occurs y (x ∷ w)) e ∙ occurs-self x w)
  | no n ↦ inr (occurs-other v x u [] n ∙ ap (occurs v) (append-nil u), ap (λ b. cond b 1 (occurs v w)) (ne_eqb v x n))
]

at_most_once : (v : ℕ) (u : List ℕ) → occurs v u ≤ 1
at_most_once v u = elim (occurs-01 v u) [ inl z ↦ omega (arith, z) | inr z ↦ omega (arith, z) ]

pub at-skipped : (p k x : ℕ) (left used values : List ℕ) → occurs x used ≡ 1 → IsAt p k (x ∷ left) used values → IsAt p k left used values
at-skipped p k x left used values o a = record {
  begun = a.begun;
  row = a.row.1;
  among = λ v. elim (behind v x [] left) [ inl e ↦ omega (arith, a.among v, e.2, at_most_once v left) | inr e ↦ omega (arith, a.among v, e.1) ];
  covers = λ v. elim (behind v x [] left) [
    | inl e ↦ let w = ap (λ y. occurs y used) e.0 in omega (arith, a.begun.written v, w, o, at_most_once v (numbers_from 1 p))
    | inr e ↦ omega (arith, a.covers v, e.1)
  ];
  fits = omega (arith, a.fits);
}

begun-written : (p k j x : ℕ) (used values : List ℕ) → IsBegun p k used values → 1 ≤ occurs x (numbers_from 1 p) → is_last x values ≡ false → length values + suc (j * suc p) ≤ 255 → IsBegun p j used (values ++ (x ∷ []))
begun-written p k j x used values b i l s = record {
  plain = plain-more x values b.plain l;
  inside = λ v. elim (behind v x values []) [ inl e ↦ let w = ap (λ y. occurs y (numbers_from 1 p)) e.0 in omega (arith, w, i, e.1) | inr e ↦ omega (arith, b.inside v, e.0) ];
  written = λ v. elim (behind v x values []) [ inl e ↦ omega (arith, at_most_once v used, e.1) | inr e ↦ omega (arith, b.written v, e.0) ];
  short = omega (arith, s, length-append values (x ∷ []));
}

pub at-written : (p k x : ℕ) (left used values written : List ℕ) → written ≡ values ++ (x ∷ []) → is_last x values ≡ false → IsAt p k (x ∷ left) used values → IsAt p k left used written
at-written p k x left used values written w l a = subst (λ (u : List ℕ). IsAt p k left used u) (sym w) record {
  begun = begun-written p k k x used values a.begun (omega (arith, a.among x, occurs-self x left)) l (omega (arith, a.fits));
  row = a.row.1;
  among = λ v. elim (behind v x [] left) [ inl e ↦ omega (arith, a.among v, e.2, at_most_once v left) | inr e ↦ omega (arith, a.among v, e.1) ];
  covers = λ v. elim (behind v x values left) [ inl e ↦ omega (arith, e.1, at_most_once v (numbers_from 1 p)) | inr e ↦ omega (arith, a.covers v, e.0, e.1) ];
  fits = omega (arith, a.fits, length-append values (x ∷ []));
}

pub at-used : (p k x : ℕ) (left used used_after used_now values values_now values_after : List ℕ) → values_now ≡ values ++ (x ∷ []) → values_after ≡ values_now → used_after ≡ used → used_now ≡ used_after ++ (x ∷ []) →
    is_last x values ≡ false → IsAt p k (x ∷ left) used values → IsAt p k left used_now values_after
at-used p k x left used used_after used_now values values_now values_after n v u m l start =
    let written : List ℕ = values ++ (x ∷ []) in
    let a = at-written p k x left used values written refl l start in
    rw (v ∙ n, m ∙ ap (λ y. y ++ (x ∷ [])) u) record {
      begun = record {
        plain = a.begun.plain;
        inside = a.begun.inside;
        written = λ y. elim (behind y x used []) [
          | inl e ↦ let o = ap (λ z. occurs z written) e.0 in omega (arith, o, e.1, occurs-mid x values [])
          | inr e ↦ omega (arith, a.begun.written y, e.0)
        ];
        short = a.begun.short;
      };
      row = a.row;
      among = a.among;
      covers = a.covers;
      fits = a.fits;
    }

pub at-row : (p k e : ℕ) (row used values : List ℕ) → row ≡ cycle_power p e → IsBegun p k used values → length values + (p + k * suc p) ≤ 255 → IsAt p k row used values
at-row p k e row used values r b s =
    let q : IsPermutationOf p row = subst (IsPermutationOf p) (sym r) (power-perm p e) in
    record { begun = b; row = q.distinct; among = λ v. omega (arith, q.onto v); covers = λ v. omega (arith, q.onto v); fits = omega (arith, s, permutation-length p row q) }

-- the row behind the first entry of a pair
pub at-pair : (p k e : ℕ) (row used values written : List ℕ) → e < p → row ≡ cycle_power p (suc e) → written ≡ values ++ (suc e ∷ []) → is_last (suc e) values ≡ false → IsBegun p (suc k) used values → IsAt p k row used written
at-pair p k e row used values written h r w l b =
    let t = turned p e h in
    let inside : 1 ≤ occurs (suc e) (numbers_from 1 p) = omega (arith, (power-perm p e).onto (suc e), ap (occurs (suc e)) t.here, occurs-self (suc e) t.rest) in
    let long : length written ≡ length values + 1 = ap length w ∙ length-append values (suc e ∷ []) in
    at-row p k (suc e) row used written r (subst (IsBegun p k used) (sym w) (begun-written p (suc k) k (suc e) used values b inside l (omega (arith, b.short)))) (omega (arith, b.short, long))

-- a pair that comes next is one of those that follow
pub begun-next : (p k : ℕ) (used values : List ℕ) → k ≢ 0 → IsBegun p k used values → IsBegun p (suc (k - 1)) used values
begun-next p k used values n b = let e : k ≡ suc (k - 1) = omega (arith, no-zero k n) in subst (λ (j : ℕ). IsBegun p j used values) e b
  where
    no-zero : (k : ℕ) → k ≢ 0 → 1 ≤ k
    no-zero zero n = absurd (n refl)
    no-zero (suc k) n = omega arith

pub fewer : (p k n : ℕ) → k ≢ 0 → 4 * ((k - 1) * suc p + p) + 2 < 4 * (n + k * suc p) + 3
fewer p zero n h = absurd (h refl)
fewer p (suc k) n h = let e : suc k - 1 ≡ k = omega arith in rw e (omega arith)

pub at-end : (p k : ℕ) (used values : List ℕ) → 1 ≤ p → p ≤ 32 → IsAt p k [] used values → surjection_fault values ≡ None
at-end zero k used values one narrow a = absurd (omega arith)
at-end (suc p) k used values one narrow a =
    let onto : (v : ℕ) → occurs v values ≡ occurs v (numbers_from 1 (suc p)) = λ v. omega (arith, a.begun.inside v, a.covers v) in
    faultless (suc p) values one narrow (some values (onto 1)) (omega (arith, a.fits)) onto a.begun.plain
  where
    some : (u : List ℕ) → occurs 1 u ≡ 1 → 1 ≤ length u
    some [] o = absurd (omega (arith, o))
    some (x ∷ u) o = omega arith

-- ---- from the first row on
pub begun-none : (p k : ℕ) (used values : List ℕ) → used ≡ [] → values ≡ [] → k * suc p ≤ 255 → IsBegun p k used values
begun-none p k used values u v s = rw (u, v) record { plain = refl; inside = λ n. omega arith; written = λ n. omega arith; short = omega (arith, s) }

pub at-first : (p k : ℕ) (row used values : List ℕ) → row ≡ cycle_power p 0 → used ≡ [] → values ≡ [] → suc k * suc p ≤ 255 → IsAt p k row used values
at-first p k row used values r u v s = at-row p k 0 row used values r (begun-none p k used values u v (omega (arith, s))) (omega (arith, s, ap length v))

pub adds-tuples : (out : List ℕ → Bool) (p d : ℕ) (later : List (List ℕ)) (row used values : List ℕ) (old new : List (List ℕ)) → 1 ≤ p → IsTuple p later → leading_entries p d ≡ cycle_power p 0 ∷ later →
    row ≡ cycle_power p 0 → used ≡ [] → values ≡ [] → AddsLists out p (d / 2) later row used values old new → (phi : List ℕ → ℤ) → total phi new ≡ total phi old +ℤ may_sum p d (normalized (restricted out phi))
adds-tuples out p d later row used values old new one i l r u v a phi =
    let h = normalized (restricted out phi) in
    let k : ℕ = d / 2 in
    let start : pair_sum p k (λ t. ahead (later ++ t) row used values h) ≡ pair_sum p k (λ t. ahead (later ++ t) (cycle_power p 0) [] [] h) =
    λ j. pair_sum p k (λ t. ahead (later ++ t) (r j) (u j) (v j) h) in
    let same : pair_sum p k (λ t. reduction_sum (cycle_power p 0 ∷ (later ++ t)) h) ≡ pair_sum p k (λ t. ahead (later ++ t) (cycle_power p 0) [] [] h) =
    pairs-cong p k _ _ (λ t q. reduced-walked p (cycle_power p 0 ∷ (later ++ t)) h one (power-perm p 0, tuple-append p later t i q)
    ∙ ap (λ x. walk (later ++ t) x [] h) (sym (unused-none (cycle_power p 0)))) in
    let whole : may_sum p d h ≡ pair_sum p k (λ t. reduction_sum (cycle_power p 0 ∷ (later ++ t)) h) =
    λ j. pair_sum p (pair_count-half d j) (λ t. reduction_sum (l j ++ t) h) in
    omega (arith, ints, a.at phi, start, same, whole)

-- ---- the sum of the lists, whatever their order
pub sum-more : (cmp : List ℕ → List ℕ → Ordering) (same : (x y : List ℕ) → cmp x y ≡ Equal → x ≡ y) (old new : List (List ℕ × ℤ)) (u : List ℕ) (phi : List ℕ → ℤ) → new ≡ plus_term cmp old u (pos 1) → value_at phi new ≡ value_at phi old +ℤ phi u
sum-more cmp same old new u phi n = omega (arith, ints, ap (value_at phi) n, value_at-plus_term cmp same phi old u (pos 1), one-mul (phi u))

abbrev pos_part : ℤ → ℕ
pos_part (pos n) = n
pos_part (negsuc n) = 0

abbrev neg_part : ℤ → ℕ
neg_part (pos n) = 0
neg_part (negsuc n) = suc n

parts : (z : ℤ) → z +ℤ pos (neg_part z) ≡ pos (pos_part z)
parts (pos n) = omega (arith, ints)
parts (negsuc n) = omega (arith, ints)

total-parts : {X : Type 0} (f : X → ℤ) (xs : List X) → total f xs +ℤ pos (sum_by (λ x. neg_part (f x)) xs) ≡ pos (sum_by (λ x. pos_part (f x)) xs)
total-parts f [] = omega (arith, ints)
total-parts f (x ∷ xs) = omega (arith, ints, parts (f x), total-parts f xs, sum_by-cons (λ x. neg_part (f x)) x xs, sum_by-cons (λ x. pos_part (f x)) x xs)

pub total-permutation : {X : Type 0} (f : X → ℤ) (xs ys : List X) → IsPermutation xs ys → total f ys ≡ total f xs
total-permutation f xs ys h =
    omega (arith, ints, total-parts f xs, total-parts f ys, sum_by-IsPermutation (λ x. neg_part (f x)) xs ys h, sum_by-IsPermutation (λ x. pos_part (f x)) xs ys h)
