-- The steps of a walk over the rows of a tuple.
use Rattle.std.{proofs.Common.{◌≡◌, ℕ, ◌==◌, ◌||◌, false, true, List, [], ◌∷◌, ◌++◌, length, refl, sym, ◌∙◌, ap, subst, arith, append_assoc, suc, ◌+◌, ◌≤◌, ◌^◌, ◌⊎◌, eqb-true, eq-eqb, inl, inr, Ordering, Equal, ℤ, pos, ◌+ℤ◌, ne_eqb, append-nil, Bool, cond, is_some, MatchOption, Option, None, Some}, proofs.lemmas.Int.ints, proofs.lemmas.Bool.{eqb-false, or_left, or_right}, specs.Borrow.Bor, specs.List.IsFirstAndRest}
use Rattle.operad_law.{proofs.PlusTerm.{value_at-plus_term, weight_of-plus_term}, specs.FormalSums.plus_term}
use Rattle.signed_sum.{proofs.Names.{Alike, occurs-01, one-mul, fun_ext, restricted-gone, restricted-there}, specs.Names.{is_degenerate, occurs, normalized, value_at, weight_of}}
use Rattle.surjection.specs.{Names.surjection_fault, declared.surj.NotASurjection.NotASurjection}
use Rattle.table_reduction.specs.Walks.{AddsLists, ahead, count_ahead, is_last, needed, weight_needed}
use Rattle.table_reduction_law.{proofs.ReductionWalks.{walk, walk-used, walk-zero}, proofs.RowsAsWalks.inner, proofs.UnusedEntries.{unused-absent, unused-cong, unused-cons, unused-out}, specs.Names.{cons_if_zero, unused}}

-- the sums over what stands ahead, in whole and in natural numbers
walk-count : (ws : List (List ℕ)) (xs a : List ℕ) (f : List ℕ → ℕ) → walk ws xs a (λ u. pos (f u)) ≡ pos (count_ahead ws xs a f)
walk-count [] xs a f = refl
walk-count (w ∷ ws) [] a f = refl
walk-count (w ∷ ws) (x ∷ xs) a f = omega (arith, ints, walk-count ws (unused a w) a (λ u. f (x ∷ u)), walk-count (w ∷ ws) xs (x ∷ a) (λ u. f (x ∷ u)))

pub needed-ahead : (later : List (List ℕ)) (left used values : List ℕ) → ahead later left used values (λ u. pos (weight_needed u)) ≡ pos (needed later left used values)
needed-ahead later left used values = walk-count later (unused used left) used (λ u. weight_needed (values ++ u))

-- no entry of the row at hand is left, and a row is missing
pub adds-none : (later : List (List ℕ)) (used values : List ℕ) (sum : List (List ℕ × ℤ)) → (length later == 0) ≡ false → AddsLists later [] used values sum sum
adds-none [] used values sum e = absurd (cc)
adds-none (w ∷ ws) used values sum e = record { at = λ phi. omega (arith, ints); within = omega arith }

-- what a list that is not degenerate needs: 1 if it has no fault, and else too much
needs : (u : List ℕ) → is_degenerate u ≡ false → ((surjection_fault u ≡ None) × (weight_needed u ≡ 1)) ⊎ (weight_needed u ≡ suc (10 ^ 18))
needs u d = go (surjection_fault u) refl
  where
    go : (f : Option NotASurjection) → surjection_fault u ≡ f → ((surjection_fault u ≡ None) × (weight_needed u ≡ 1)) ⊎ (weight_needed u ≡ suc (10 ^ 18))
    go None e = inl (e, (λ i. cond (d i) 0 (cond (is_some (e i)) (suc (10 ^ 18)) 1)))
    go (Some f) e = inr (λ i. cond (d i) 0 (cond (is_some (e i)) (suc (10 ^ 18)) 1))

-- one list is written
pub adds-one : (cmp : List ℕ → List ℕ → Ordering) (same : (x y : List ℕ) → cmp x y ≡ Equal → x ≡ y) (later : List (List ℕ)) (used values u : List ℕ) (old new : List (List ℕ × ℤ)) →
    (length later == 0) ≡ true → u ≡ values → is_degenerate values ≡ false → new ≡ plus_term cmp old u (pos 1) → AddsLists later [] used values old new
adds-one cmp same [] used values u old new l e d n = record {
  at = λ phi.
      let a = value_at-plus_term cmp same phi old u (pos 1) in
      let b : normalized phi (values ++ []) ≡ phi u = ap (normalized phi) (append-nil values) ∙ restricted-there is_degenerate phi values d ∙ ap phi (sym e) in
      omega (arith, ints, ap (value_at phi) n, a, b, one-mul (phi u));
  within =
      let a = weight_of-plus_term cmp old u (pos 1) in
      let b = ap weight_needed (append-nil values) in
      elim (needs values d) [ inl k ↦ omega (arith, ap weight_of n, a, b, k.1) | inr k ↦ omega (arith, ap weight_of n, a, b, k) ];
}
adds-one cmp same (w ∷ ws) used values u old new l e d n = absurd (omega (arith, eqb-true (length (w ∷ ws)) 0 l))

-- what is not there stands there 0 times
pub occurs-no : (v : ℕ) (u : List ℕ) → (occurs v u == 1) ≡ false → occurs v u ≡ 0
occurs-no v u e = elim (occurs-01 v u) [ inl z ↦ z | inr z ↦ absurd (let t = eq-eqb (occurs v u) 1 z in cc) ]

-- an entry that is used is left out
pub ahead-used : (later : List (List ℕ)) (x : ℕ) (left used values : List ℕ) (h : List ℕ → ℤ) → occurs x used ≡ 1 → ahead later (x ∷ left) used values h ≡ ahead later left used values h
ahead-used later x left used values h o = ap (λ n. walk later (cons_if_zero n x (unused used left)) used (λ u. h (values ++ u))) o

needed-used : (later : List (List ℕ)) (x : ℕ) (left used values : List ℕ) → occurs x used ≡ 1 → needed later (x ∷ left) used values ≡ needed later left used values
needed-used later x left used values o = ap (λ n. count_ahead later (cons_if_zero n x (unused used left)) used (λ u. weight_needed (values ++ u))) o

pub adds-skipped : (later : List (List ℕ)) (x : ℕ) (left used values : List ℕ) (old new : List (List ℕ × ℤ)) →
    occurs x used ≡ 1 → AddsLists later left used values old new → AddsLists later (x ∷ left) used values old new
adds-skipped later x left used values old new o a = record {
  at = λ phi. omega (arith, ints, a.at phi, ahead-used later x left used values (normalized phi) o);
  within = omega (arith, a.within, needed-used later x left used values o);
}

-- the last entry of a list
pub is_last-append : (x y : ℕ) (u : List ℕ) → is_last x (u ++ (y ∷ [])) ≡ (x == y)
is_last-append x y [] = refl
is_last-append x y (z ∷ []) = refl
is_last-append x y (z ∷ w ∷ u) = is_last-append x y (w ∷ u)

is_last-degenerate : (x : ℕ) (values u : List ℕ) → is_last x values ≡ true → is_degenerate (values ++ (x ∷ u)) ≡ true
is_last-degenerate x [] u h = absurd (let z : false ≡ true = h in cc)
is_last-degenerate x (y ∷ []) u h = or_left (y == x) (is_degenerate (x ∷ u)) (eq-eqb y x (sym (eqb-true x y h)))
is_last-degenerate x (y ∷ z ∷ w) u h = or_right (y == z) (is_degenerate (z ∷ (w ++ (x ∷ u)))) (is_last-degenerate x (z ∷ w) u h)

-- a value behind a list that does not end with it
pub plain-more : (x : ℕ) (values : List ℕ) → is_degenerate values ≡ false → is_last x values ≡ false → is_degenerate (values ++ (x ∷ [])) ≡ false
plain-more x [] d l = refl
plain-more x (y ∷ []) d l = λ i. ne_eqb y x (λ e. eqb-false x y l (sym e)) i || false
plain-more x (y ∷ z ∷ u) d l =
    let p = or-split (y == z) (is_degenerate (z ∷ u)) d in
    λ i. p.0 i || plain-more x (z ∷ u) p.1 l i
  where
    or-split : (a b : Bool) → (a || b) ≡ false → (a ≡ false) × (b ≡ false)
    or-split true b e = absurd (cc)
    or-split false b e = (refl, e)

pub walk-nothing : (later : List (List ℕ)) (xs used : List ℕ) (h : List ℕ → ℤ) → ((u : List ℕ) → h u ≡ pos 0) → walk later xs used h ≡ pos 0
walk-nothing later xs used h z = ap (walk later xs used) (fun_ext z) ∙ walk-zero later xs used

-- where nothing goes on with the next entry
pub walk-from_nothing : (later : List (List ℕ)) (x : ℕ) (xs used : List ℕ) (h : List ℕ → ℤ) → ((u : List ℕ) → h (x ∷ u) ≡ pos 0) → walk later (x ∷ xs) used h ≡ pos 0
walk-from_nothing [] x xs used h z = z xs
walk-from_nothing (w ∷ ws) x xs used h z =
    omega (arith, ints, walk-nothing ws (unused used w) used (λ u. h (x ∷ u)) z, walk-nothing (w ∷ ws) xs (x ∷ used) (λ u. h (x ∷ u)) z)

-- an entry that is the value written last
pub adds-pruned : (later : List (List ℕ)) (x : ℕ) (left used values : List ℕ) (sum : List (List ℕ × ℤ)) →
    occurs x used ≡ 0 → is_last x values ≡ true → AddsLists later (x ∷ left) used values sum sum
adds-pruned later x left used values sum o l = record {
  at = λ phi.
      let gone : (u : List ℕ) → normalized phi (values ++ (x ∷ u)) ≡ pos 0 = λ u. restricted-gone is_degenerate phi (values ++ (x ∷ u)) (is_last-degenerate x values u l) in
      let e = ap (λ n. walk later (cons_if_zero n x (unused used left)) used (λ u. normalized phi (values ++ u))) o in
      omega (arith, ints, e, walk-from_nothing later x (unused used left) used (λ u. normalized phi (values ++ u)) gone);
  within = omega arith;
}

-- an entry of the last row
pub ahead-last : (x : ℕ) (left used values : List ℕ) (h : List ℕ → ℤ) → occurs x used ≡ 0 → ahead [] (x ∷ left) used values h ≡ ahead [] left used (values ++ (x ∷ [])) h
ahead-last x left used values h o = ap (λ n. h (values ++ cons_if_zero n x (unused used left))) o ∙ ap h (sym (append_assoc values (x ∷ []) (unused used left)))

needed-last : (x : ℕ) (left used values : List ℕ) → occurs x used ≡ 0 → needed [] (x ∷ left) used values ≡ needed [] left used (values ++ (x ∷ []))
needed-last x left used values o = ap (λ n. weight_needed (values ++ cons_if_zero n x (unused used left))) o ∙ ap weight_needed (sym (append_assoc values (x ∷ []) (unused used left)))

pub adds-in_last : (x : ℕ) (left used values : List ℕ) (old new : List (List ℕ × ℤ)) →
    occurs x used ≡ 0 → AddsLists [] left used (values ++ (x ∷ [])) old new → AddsLists [] (x ∷ left) used values old new
adds-in_last x left used values old new o a = record {
  at = λ phi. omega (arith, ints, a.at phi, ahead-last x left used values (normalized phi) o);
  within = omega (arith, a.within, needed-last x left used values o);
}

pub room-last : (later : List (List ℕ)) (x : ℕ) (left used values values_now : List ℕ) (weight : ℕ) → later ≡ [] → values_now ≡ values ++ (x ∷ []) → occurs x used ≡ 0 →
    weight + needed later (x ∷ left) used values ≤ 10 ^ 18 → weight + needed later left used values_now ≤ 10 ^ 18
room-last later x left used values values_now weight l v o r =
    let a = ap (λ k. needed k (x ∷ left) used values) l in
    let b : needed later left used values_now ≡ needed [] left used (values ++ (x ∷ [])) = λ i. needed (l i) left used (v i) in
    omega (arith, r, a, b, needed-last x left used values o)

-- an entry that ends its row, or is used
pub ahead-both : (w : List ℕ) (ws : List (List ℕ)) (x : ℕ) (left used values : List ℕ) (h : List ℕ → ℤ) → occurs x used ≡ 0 → occurs x left ≡ 0 →
    ahead (w ∷ ws) (x ∷ left) used values h ≡ ahead ws w used (values ++ (x ∷ [])) h +ℤ ahead (w ∷ ws) left (used ++ (x ∷ [])) (values ++ (x ∷ [])) h
ahead-both w ws x left used values h o n =
    let f : List ℕ → ℤ = λ u. h (values ++ (x ∷ u)) in
    let k : List ℕ → ℤ = λ u. h ((values ++ (x ∷ [])) ++ u) in
    let same : k ≡ f = fun_ext (λ u. ap h (append_assoc values (x ∷ []) u)) in
    let e = ap (λ n. walk (w ∷ ws) (cons_if_zero n x (unused used left)) used (λ u. h (values ++ u))) o in
    let p = ap (walk ws (unused used w) used) same in
    let q : walk (w ∷ ws) (unused (used ++ (x ∷ [])) left) (used ++ (x ∷ [])) k ≡ walk (w ∷ ws) (unused used left) (x ∷ used) f =
    (λ i. walk (w ∷ ws) (rest i) (used ++ (x ∷ [])) (same i)) ∙ walk-used (w ∷ ws) (unused used left) (used ++ (x ∷ [])) (x ∷ used) f alike in
    omega (arith, ints, e, p, q)
  where
    alike : Alike (used ++ (x ∷ [])) (x ∷ used)
    alike v = sym (inner x used [] v) ∙ ap (λ u. occurs v (x ∷ u)) (append-nil used)

    rest : unused (used ++ (x ∷ [])) left ≡ unused used left
    rest =
        unused-cong (used ++ (x ∷ [])) (x ∷ used) left alike
        ∙ sym (unused-cons x used left)
        ∙ unused-absent x (unused used left) (unused-out x used left o ∙ n)

needed-both : (w : List ℕ) (ws : List (List ℕ)) (x : ℕ) (left used values : List ℕ) → occurs x used ≡ 0 → occurs x left ≡ 0 →
    needed (w ∷ ws) (x ∷ left) used values ≡ needed ws w used (values ++ (x ∷ [])) + needed (w ∷ ws) left (used ++ (x ∷ [])) (values ++ (x ∷ []))
needed-both w ws x left used values o n =
    let e = ahead-both w ws x left used values (λ u. pos (weight_needed u)) o n in
    omega (arith, ints, e, needed-ahead (w ∷ ws) (x ∷ left) used values, needed-ahead ws w used (values ++ (x ∷ [])), needed-ahead (w ∷ ws) left (used ++ (x ∷ [])) (values ++ (x ∷ [])))

pub adds-both : (w : List ℕ) (ws : List (List ℕ)) (x : ℕ) (left used values : List ℕ) (old middle new : List (List ℕ × ℤ)) →
    occurs x used ≡ 0 → occurs x left ≡ 0 → AddsLists ws w used (values ++ (x ∷ [])) old middle →
    AddsLists (w ∷ ws) left (used ++ (x ∷ [])) (values ++ (x ∷ [])) middle new → AddsLists (w ∷ ws) (x ∷ left) used values old new
adds-both w ws x left used values old middle new o n a b = record {
  at = λ phi. omega (arith, ints, a.at phi, b.at phi, ahead-both w ws x left used values (normalized phi) o n);
  within = omega (arith, a.within, b.within, needed-both w ws x left used values o n);
}

-- there is room for the lists in which an entry ends its row, and then for those in which it is used
pub room-ended : (later rows : List (List ℕ)) (row row_now : List ℕ) (x : ℕ) (left used values values_now : List ℕ) (weight : ℕ) →
    later ≡ row ∷ rows → row_now ≡ row → values_now ≡ values ++ (x ∷ []) → occurs x used ≡ 0 → occurs x left ≡ 0 →
    weight + needed later (x ∷ left) used values ≤ 10 ^ 18 → weight + needed rows row_now used values_now ≤ 10 ^ 18
room-ended later rows row row_now x left used values values_now weight l e v o n r =
    let a = ap (λ k. needed k (x ∷ left) used values) l in
    let b : needed rows row_now used values_now ≡ needed rows row used (values ++ (x ∷ [])) = λ i. needed rows (e i) used (v i) in
    omega (arith, r, a, b, needed-both row rows x left used values o n)

pub room-used : (later rows : List (List ℕ)) (row row_now : List ℕ) (x : ℕ) (left used used_after used_now values values_now values_after : List ℕ) (old middle : List (List ℕ × ℤ)) →
    later ≡ row ∷ rows → row_now ≡ row → values_now ≡ values ++ (x ∷ []) → values_after ≡ values_now → used_after ≡ used → used_now ≡ used_after ++ (x ∷ []) →
    occurs x used ≡ 0 → occurs x left ≡ 0 → AddsLists rows row_now used values_now old middle →
    weight_of old + needed later (x ∷ left) used values ≤ 10 ^ 18 → weight_of middle + needed later left used_now values_after ≤ 10 ^ 18
room-used later rows row row_now x left used used_after used_now values values_now values_after old middle l e v a u k o n p r =
    let b = ap (λ k. needed k (x ∷ left) used values) l in
    let c : needed rows row_now used values_now ≡ needed rows row used (values ++ (x ∷ [])) = λ i. needed rows (e i) used (v i) in
    let d : needed later left used_now values_after ≡ needed (row ∷ rows) left (used ++ (x ∷ [])) (values ++ (x ∷ [])) =
    λ i. needed (l i) left ((k ∙ ap (λ y. y ++ (x ∷ [])) u) i) ((a ∙ v) i) in
    omega (arith, r, b, c, d, p.within, needed-both row rows x left used values o n)

-- the same, over what the steps of the code give
pub adds-steps : (later rows : List (List ℕ)) (row row_now : List ℕ) (x : ℕ) (left used used_after used_now values values_now values_after : List ℕ) (old middle new : List (List ℕ × ℤ)) →
    later ≡ row ∷ rows → row_now ≡ row → values_now ≡ values ++ (x ∷ []) → values_after ≡ values_now → used_after ≡ used → used_now ≡ used_after ++ (x ∷ []) →
    occurs x used ≡ 0 → occurs x left ≡ 0 → AddsLists rows row_now used values_now old middle →
    AddsLists later left used_now values_after middle new → AddsLists later (x ∷ left) used values old new
adds-steps later rows row row_now x left used used_after used_now values values_now values_after old middle new l r v a u n o m p q =
    let first : AddsLists rows row used (values ++ (x ∷ [])) old middle =
    subst (λ (k : List ℕ). AddsLists rows k used (values ++ (x ∷ [])) old middle) r (subst (λ (k : List ℕ). AddsLists rows row_now used k old middle) v p) in
    let second : AddsLists (row ∷ rows) left (used ++ (x ∷ [])) (values ++ (x ∷ [])) middle new =
    subst (λ (k : List (List ℕ)). AddsLists k left (used ++ (x ∷ [])) (values ++ (x ∷ [])) middle new) l
    (subst (λ (k : List ℕ). AddsLists later left k (values ++ (x ∷ [])) middle new) (n ∙ ap (λ k. k ++ (x ∷ [])) u)
    (subst (λ (k : List ℕ). AddsLists later left used_now k middle new) (a ∙ v) q)) in
    subst (λ (k : List (List ℕ)). AddsLists k (x ∷ left) used values old new) (sym l) (adds-both row rows x left used values old middle new o m first second)

-- no row is left
pub no_rows : (later : List (List ℕ)) (r : Option (Bor (List ℕ) × Bor (List (List ℕ)))) → MatchOption r (length later ≡ 0) (λ p. IsFirstAndRest later p.0.now p.1.now) →
    ((p : Bor (List ℕ) × Bor (List (List ℕ))) → r ≡ Some p → ⊥) → later ≡ []
no_rows [] r h n = refl
no_rows (w ∷ ws) None h n = absurd (omega arith)
no_rows (w ∷ ws) (Some p) h n = absurd (n p refl)
