-- The removals from the lists of a table reduction cancel, but for those that take one permutation out of the tuple.
use Rattle.std.proofs.{Common.{◌≡◌, ℕ, zero, suc, cond, List, [], ◌∷◌, refl, ◌∙◌, ap, arith, ◌==◌, true, false, ℤ, pos, ◌+ℤ◌, neg_ℤ}, lemmas.Int.ints}
use Rattle.signed_sum.{proofs.Names.{Alike, occurs-self, signed-+, signed-neg, signed-zero, without_one-sum, without_one-zero}, specs.Names.{signed, without_one}}
use Rattle.table_reduction_law.{proofs.ReductionWalks.{Good, good-end, good-use, left, put, removals, removals-agree, removals-mark, walk}, proofs.UnusedEntries.unused-cons, specs.Names.unused}

-- no value has ended a row
abbrev pub unmarked : ℕ → ℕ
unmarked v = 0

pub removals-last : (xs a : List ℕ) (k : ℕ) (h : List ℕ → ℤ) → removals [] xs a unmarked k h ≡ pos 0
removals-last [] a k h = refl
removals-last (x ∷ xs) a k h = let p = removals-last xs (x ∷ a) k (λ u. h (x ∷ u)) in omega (arith, ints)

nothing : (u : List ℕ) → Alike u [] → u ≡ []
nothing [] e = refl
nothing (x ∷ u) e = absurd (let p = e x in let q = occurs-self x u in omega (arith, p, q))

-- the removals after the end x of a row: those with no mark, and the place where x is used
after : (w : List ℕ) (ws : List (List ℕ)) (x : ℕ) (xs a : List ℕ) (k : ℕ) (h : List ℕ → ℤ) → Good (w ∷ ws) (x ∷ xs) a →
    removals ws (unused a w) a (put x (suc k) unmarked) (suc k) h ≡ removals ws (unused a w) a unmarked (suc k) h +ℤ signed (suc k) (walk ws (unused (x ∷ a) w) (x ∷ a) h)
after w ws x xs a k h g =
    let e = good-end w ws (x ∷ xs) a g in
    let m = removals-mark ws (unused a w) a x k unmarked (suc k) h e (left w ws (x ∷ xs) a g x ∙ occurs-self x xs) in
    let c = removals-agree ws (unused a w) a (put x 0 unmarked) unmarked (suc k) h e (λ v q. elim (v == x) as (λ b. cond b zero zero ≡ zero) [ true ↦ refl | false ↦ refl ]) in
    let d = ap (λ r. signed (suc k) (walk ws r (x ∷ a) h)) (unused-cons x a w) in
    omega (arith, ints)

pub pairing : (ws : List (List ℕ)) (w xs a : List ℕ) (k : ℕ) (h : List ℕ → ℤ) → Good (w ∷ ws) xs a →
    removals (w ∷ ws) xs a unmarked k h ≡ signed k (walk ws (unused a w) a h) +ℤ signed (suc k) (without_one (w ∷ ws) (λ vs. walk vs xs a h))
pairing [] w [] a k h g =
    let e : unused a w ≡ [] = nothing (unused a w) (left w [] [] a g) in
    let f = ap (λ r. signed k (h r)) e in
    let s = signed-+ k (h []) (pos 0) in
    let z = signed-zero k in
    omega (arith, ints)
pairing (y ∷ ws) w [] a k h g =
    let e : unused a w ≡ [] = nothing (unused a w) (left w (y ∷ ws) [] a g) in
    let f : signed k (walk (y ∷ ws) (unused a w) a h) ≡ signed k (pos 0) = ap (λ r. signed k (walk (y ∷ ws) r a h)) e in
    let z = signed-zero k in
    let o : without_one (y ∷ ws) (λ vs. walk (w ∷ vs) [] a h) ≡ pos 0 = without_one-zero (y ∷ ws) in
    let oo : signed k (pos 0 +ℤ neg_ℤ (without_one (y ∷ ws) (λ vs. walk (w ∷ vs) [] a h))) ≡ signed k (pos 0) = ap (λ j. signed k (pos 0 +ℤ neg_ℤ j)) o in
    omega (arith, ints)
pairing [] w (x ∷ xs) a k h g =
    let hx : List ℕ → ℤ = λ u. h (x ∷ u) in
    let f = after w [] x xs a k hx g in
    let l = removals-last (unused a w) a (suc k) hx in
    let ih = pairing [] w xs (x ∷ a) k hx (good-use (w ∷ []) x xs a g) in
    omega (arith, ints)
pairing (y ∷ ws) w (x ∷ xs) a k h g =
    let hx : List ℕ → ℤ = λ u. h (x ∷ u) in
    let P : ℤ = walk ws (unused a y) a hx in
    let Q : ℤ = walk (y ∷ ws) xs (x ∷ a) hx in
    let X : ℤ = without_one (y ∷ ws) (λ vs. walk vs (unused a w) a hx) in
    let Y : ℤ = without_one (y ∷ ws) (λ vs. walk (w ∷ vs) xs (x ∷ a) hx) in
    let f = after w (y ∷ ws) x xs a k hx g in
    let ih1 = pairing ws y (unused a w) a (suc k) hx (good-end w (y ∷ ws) (x ∷ xs) a g) in
    let ih2 = pairing (y ∷ ws) w xs (x ∷ a) k hx (good-use (w ∷ y ∷ ws) x xs a g) in
    let o : without_one (y ∷ ws) (λ vs. walk (w ∷ vs) (x ∷ xs) a h) ≡ X +ℤ Y = without_one-sum (y ∷ ws) (λ vs. walk vs (unused a w) a hx) (λ vs. walk (w ∷ vs) xs (x ∷ a) hx) in
    let oo : signed k ((P +ℤ Q) +ℤ neg_ℤ (without_one (y ∷ ws) (λ vs. walk (w ∷ vs) (x ∷ xs) a h))) ≡ signed k ((P +ℤ Q) +ℤ neg_ℤ (X +ℤ Y)) = ap (λ j. signed k ((P +ℤ Q) +ℤ neg_ℤ j)) o in
    let s1 = signed-+ k (P +ℤ Q) (neg_ℤ (X +ℤ Y)) in
    let s2 = signed-+ k P Q in
    let s3 = signed-neg k (X +ℤ Y) in
    let s4 = signed-+ k X Y in
    let s5 = signed-+ k Q (neg_ℤ Y) in
    let s6 = signed-neg k Y in
    omega (arith, ints)
