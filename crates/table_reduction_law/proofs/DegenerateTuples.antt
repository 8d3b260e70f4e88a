-- The table reduction of a degenerate tuple.
use Rattle.std.proofs.{Common.{◌≡◌, ℕ, ◌≤◌, Bool, true, false, ◌||◌, List, [], ◌∷◌, refl, sym, ◌∙◌, ap, arith, eqb, eq-eqb, ℤ, pos}, lemmas.Bool.{or_left, or_right}, lemmas.Int.ints}
use Rattle.signed_sum.{proofs.Names.{is_same_list-true, occurs-self}, specs.Names.{IsDistinct, begins_with, is_degenerate, is_same_list, IsNormalized}}
use Rattle.table_reduction_law.{proofs.ReductionBoundary.{reduced-walked, reduction_sum, tuple_good, walked}, proofs.ReductionWalks.{Good, good-distinct, good-end, good-use, walk, walk-zero}, proofs.UnusedEntries.{unused-absent, unused-cons, unused-none}, specs.Names.{cons_if_zero, unused, IsTuple, is_degenerate_tuple}}

pub normal-cons : (x : ℕ) (h : List ℕ → ℤ) → IsNormalized h → IsNormalized (λ u. h (x ∷ u))
normal-cons x h n u r = n (x ∷ u) (or_right (begins_with x u) (is_degenerate u) r)

-- a list that begins with the same value twice
pub normal-twice : (x : ℕ) (h : List ℕ → ℤ) → IsNormalized h → (u : List ℕ) → h (x ∷ x ∷ u) ≡ pos 0
normal-twice x h n u = n (x ∷ x ∷ u) (or_left (eqb x x) (is_degenerate (x ∷ u)) (eq-eqb x x refl))

-- each list begins with the first entry that is left
pub walk-begins : (ws : List (List ℕ)) (x : ℕ) (xs a : List ℕ) (h : List ℕ → ℤ) → ((u : List ℕ) → h (x ∷ u) ≡ pos 0) → walk ws (x ∷ xs) a h ≡ pos 0
walk-begins [] x xs a h z = z xs
walk-begins (w ∷ ws) x xs a h z =
    let e : walk ws (unused a w) a (λ u. h (x ∷ u)) ≡ pos 0 = ap (λ f. walk ws (unused a w) a f) (λ i u. z u i) ∙ walk-zero ws (unused a w) a in
    let f : walk (w ∷ ws) xs (x ∷ a) (λ u. h (x ∷ u)) ≡ pos 0 = ap (λ f. walk (w ∷ ws) xs (x ∷ a) f) (λ i u. z u i) ∙ walk-zero (w ∷ ws) xs (x ∷ a) in
    omega (arith, ints)

-- the next row begins with the entry that ends this one
repeat-first : (ws : List (List ℕ)) (w xs a : List ℕ) (h : List ℕ → ℤ) → IsNormalized h → IsDistinct xs → unused a w ≡ xs → walk (w ∷ ws) xs a h ≡ pos 0
repeat-first ws w [] a h n d e = refl
repeat-first ws w (x ∷ xs) a h n d e =
    let p : walk ws (unused a w) a (λ u. h (x ∷ u)) ≡ walk ws (x ∷ xs) a (λ u. h (x ∷ u)) = ap (λ r. walk ws r a (λ u. h (x ∷ u))) e in
    let q = walk-begins ws x xs a (λ u. h (x ∷ u)) (normal-twice x h n) in
    let f : unused (x ∷ a) w ≡ xs =
    sym (unused-cons x a w) ∙ ap (λ r. unused (x ∷ []) r) e ∙ ap (λ j. cons_if_zero j x (unused (x ∷ []) xs)) (occurs-self x []) ∙ unused-absent x xs d.0 in
    let ih = repeat-first ws w xs (x ∷ a) (λ u. h (x ∷ u)) (normal-cons x h n) d.1 f in
    omega (arith, ints)

repeat-later : (ws : List (List ℕ)) (xs a : List ℕ) (h : List ℕ → ℤ) → IsNormalized h → Good ws xs a → is_degenerate_tuple ws ≡ true → walk ws xs a h ≡ pos 0
repeat-later [] xs a h n g k = absurd (let z : false ≡ true = k in cc)
repeat-later (w ∷ []) xs a h n g k = absurd (let z : false ≡ true = k in cc)
repeat-later (w ∷ y ∷ ws) [] a h n g k = refl
repeat-later (w ∷ y ∷ ws) (x ∷ xs) a h n g k =
    let ge = good-end w (y ∷ ws) (x ∷ xs) a g in
    let hx : List ℕ → ℤ = λ u. h (x ∷ u) in
    let p = next (is_same_list w y) refl k (λ e. repeat-later (y ∷ ws) (unused a w) a hx (normal-cons x h n) ge e) ge in
    let q = repeat-later (w ∷ y ∷ ws) xs (x ∷ a) hx (normal-cons x h n) (good-use (w ∷ y ∷ ws) x xs a g) k in
    omega (arith, ints)
  where
    next : (b : Bool) → is_same_list w y ≡ b → (b || is_degenerate_tuple (y ∷ ws)) ≡ true → (is_degenerate_tuple (y ∷ ws) ≡ true → walk (y ∷ ws) (unused a w) a (λ u. h (x ∷ u)) ≡ pos 0) → Good (y ∷ ws) (unused a w) a →
        walk (y ∷ ws) (unused a w) a (λ u. h (x ∷ u)) ≡ pos 0
    next true e k ih ge = repeat-first ws y (unused a w) a (λ u. h (x ∷ u)) (normal-cons x h n) (good-distinct (y ∷ ws) (unused a w) a ge) (ap (λ r. unused a r) (sym (is_same_list-true w y e)))
    next false e k ih ge = ih k

-- a tuple with equal neighbours gives lists with equal neighbours alone
pub reduced-degenerate : (r : ℕ) (w : List (List ℕ)) (h : List ℕ → ℤ) → 1 ≤ r → IsTuple r w → IsNormalized h → is_degenerate_tuple w ≡ true → reduction_sum w h ≡ pos 0
reduced-degenerate r w h k t n e = reduced-walked r w h k t ∙ go w t e
  where
    go : (w : List (List ℕ)) → IsTuple r w → is_degenerate_tuple w ≡ true → walked w h ≡ pos 0
    go [] t e = absurd (let z : false ≡ true = e in cc)
    go (x ∷ []) t e = absurd (let z : false ≡ true = e in cc)
    go (x ∷ y ∷ w) t e = two (is_same_list x y) refl e
      where
        two : (b : Bool) → is_same_list x y ≡ b → (b || is_degenerate_tuple (y ∷ w)) ≡ true → walk (y ∷ w) x [] h ≡ pos 0
        two true q e = repeat-first w y x [] h n t.0.distinct (unused-none y ∙ sym (is_same_list-true x y q))
        two false q e = repeat-later (y ∷ w) x [] h n (tuple_good r x (y ∷ w) t.0 t.1) e
