-- The sum over the lists of row lengths is the sum entry by entry.
use Rattle.std.proofs.{Common.{◌≡◌, ℕ, zero, suc, ◌+◌, ◌<◌, cond, List, [], ◌∷◌, ◌++◌, map, refl, sym, ◌∙◌, ap, arith, ◌==◌, take, ℤ, pos, ◌+ℤ◌, length, pred}, lemmas.Bool.Decides.nat_tests, lemmas.Int.ints}
use native.Mathlib.Decide.{ℕ_discrete}
use Rattle.signed_sum.{proofs.Names.{Alike, Alike-append, occurs-apart, occurs-self, occurs-swap, total-append, total-map}, specs.Names.{IsDistinct, occurs, total}}
use Rattle.table_reduction_law.{proofs.ReductionWalks.{Good, good-distinct, good-end, good-use, left, walk}, proofs.UnusedEntries.{unused-absent, unused-cong, unused-distinct, unused-in, unused-out}, specs.Names.{row_lengths, rows, unused, with_longer_first}}

-- lists of the same values have the same length

pub count-remove : (x : ℕ) (w : List ℕ) → IsDistinct w → occurs x w ≡ 1 → length w ≡ suc (length (unused (x ∷ []) w))
count-remove x [] d h = absurd (omega (arith, h))
count-remove x (y ∷ w) d h = elim (ℕ_discrete y x) [
  | yes e ↦
      let k : occurs y (x ∷ []) ≡ 1 = ap (λ j. occurs j (x ∷ [])) e ∙ occurs-self x [] in
      rw k (ap (λ r. suc (length r)) (sym (unused-absent x w (ap (λ j. occurs j w) (sym e) ∙ d.0))))
  | no e ↦ rw (occurs-apart y x [] e) (ap suc (count-remove x w d.1 (sym (occurs-apart x y w (λ q. e (sym q))) ∙ h)))
]

pub count-alike : (u w : List ℕ) → IsDistinct u → IsDistinct w → Alike u w → length u ≡ length w
count-alike [] [] d e a = refl
count-alike [] (y ∷ w) d e a = absurd (let p = a y in let q = occurs-self y w in omega (arith, p, q))
count-alike (x ∷ u) w d e a =
    let m : occurs x w ≡ 1 = sym (a x) ∙ occurs-self x u in
    ap suc (count-alike u (unused (x ∷ []) w) d.1 (unused-distinct (x ∷ []) w e) (λ v. grind (arith, nat_tests, a v, d.0, unused-in v (x ∷ []) w, unused-out v (x ∷ []) w))) ∙ sym (count-remove x w e m)

-- row lengths

pub lengths-few : (k n : ℕ) → n < k → row_lengths k n ≡ []
lengths-few zero n h = absurd (omega (arith, h))
lengths-few (suc k) zero h = refl
lengths-few (suc k) (suc n) h =
    let a = lengths-few k n (omega (arith, h)) in
    let b = lengths-few (suc k) n (omega (arith, h)) in
    λ i. map (λ ls. 1 ∷ ls) (a i) ++ map with_longer_first (b i)

-- one row
pub lengths-one : (n : ℕ) → row_lengths 1 (suc n) ≡ (suc n ∷ []) ∷ []
lengths-one zero = refl
lengths-one (suc n) = ap (λ r. map with_longer_first r) (lengths-one n)

-- each length is positive
pub total-positive : (k n : ℕ) (f g : List ℕ → ℤ) → ((q : ℕ) (ls : List ℕ) → f (suc q ∷ ls) ≡ g (suc q ∷ ls)) → total f (row_lengths (suc k) n) ≡ total g (row_lengths (suc k) n)
total-positive k zero f g h = refl
total-positive k (suc n) f g h =
    let a1 = total-append f (map (λ ls. 1 ∷ ls) (row_lengths k n)) (map with_longer_first (row_lengths (suc k) n)) in
    let a2 = total-append g (map (λ ls. 1 ∷ ls) (row_lengths k n)) (map with_longer_first (row_lengths (suc k) n)) in
    let b1 = total-map f (λ ls. 1 ∷ ls) (row_lengths k n) in
    let b2 = total-map g (λ ls. 1 ∷ ls) (row_lengths k n) in
    let c1 = total-map f with_longer_first (row_lengths (suc k) n) in
    let c2 = total-map g with_longer_first (row_lengths (suc k) n) in
    let d = ap (λ e. total e (row_lengths k n)) (λ i ls. h 0 ls i) in
    let e = total-positive k n (λ ls. f (with_longer_first ls)) (λ ls. g (with_longer_first ls)) (λ q ls. h (suc q) ls) in
    omega (arith, ints)

-- rows

pub rows-used : (ws : List (List ℕ)) (a b ls : List ℕ) → Alike a b → rows a ws ls ≡ rows b ws ls
rows-used [] a b ls e = refl
rows-used (w ∷ ws) a b [] e = refl
rows-used (w ∷ ws) a b (n ∷ ls) e =
    let u = unused-cong a b w e in
    (λ i. take n (u i) ++ rows (take (pred n) (u i) ++ a) ws ls)
    ∙ ap (λ r. take n (unused b w) ++ r) (rows-used ws (take (pred n) (unused b w) ++ a) (take (pred n) (unused b w) ++ b) ls (Alike-append (take (pred n) (unused b w)) a b e))

-- the rows from one on of which xs is left
abbrev pub rows_from : List ℕ → List ℕ → List (List ℕ) → List ℕ → List ℕ
rows_from a xs ws [] = []
rows_from a xs ws (n ∷ ls) = take n xs ++ rows (take (pred n) xs ++ a) ws ls

pub rows-from : (a w : List ℕ) (ws : List (List ℕ)) (ls : List ℕ) → rows a (w ∷ ws) ls ≡ rows_from a (unused a w) ws ls
rows-from a w ws [] = refl
rows-from a w ws (n ∷ ls) = refl

pub inner : (x : ℕ) (p a : List ℕ) → Alike (x ∷ (p ++ a)) (p ++ (x ∷ a))
inner x [] a v = refl
inner x (y ∷ p) a v = occurs-swap v x y (p ++ a) ∙ ap (λ k. cond (v == y) 1 k) (inner x p a v)

-- a row that is longer by the entry x
pub rows-longer : (a xs : List ℕ) (x q : ℕ) (ws : List (List ℕ)) (ls : List ℕ) → rows_from a (x ∷ xs) ws (suc (suc q) ∷ ls) ≡ x ∷ rows_from (x ∷ a) xs ws (suc q ∷ ls)
rows-longer a xs x q ws ls = ap (λ r. x ∷ (take (suc q) xs ++ r)) (rows-used ws (x ∷ (take q xs ++ a)) (take q xs ++ (x ∷ a)) ls (inner x (take q xs) a))

pub take-all : (xs : List ℕ) → take (length xs) xs ++ [] ≡ xs
take-all [] = refl
take-all (x ∷ xs) = ap (λ r. x ∷ r) (take-all xs)

pub bridge : (ws : List (List ℕ)) (xs a : List ℕ) (n : ℕ) (h : List ℕ → ℤ) → Good ws xs a → length xs + length ws ≡ suc n →
    walk ws xs a h ≡ total (λ ls. h (rows_from a xs ws ls)) (row_lengths (suc (length ws)) (suc n))
bridge [] xs a n h g e =
    let c : length xs ≡ suc n = omega (arith, e) in
    let t : take (suc n) xs ++ [] ≡ xs = ap (λ j. take j xs ++ []) (sym c) ∙ take-all xs in
    let p : total (λ ls. h (rows_from a xs [] ls)) (row_lengths 1 (suc n)) ≡ h (take (suc n) xs ++ []) +ℤ pos 0 = ap (λ r. total (λ ls. h (rows_from a xs [] ls)) r) (lengths-one n) in
    let q : h (take (suc n) xs ++ []) ≡ h xs = ap h t in
    omega (arith, ints)
bridge (w ∷ ws) [] a n h g e =
    let z : row_lengths (suc (suc (length ws))) (suc n) ≡ [] = lengths-few (suc (suc (length ws))) (suc n) (omega (arith, e)) in
    sym (ap (λ r. total (λ ls. h (rows_from a [] (w ∷ ws) ls)) r) z)
bridge (w ∷ ws) (x ∷ xs) a zero h g e = absurd (omega (arith, e))
bridge (w ∷ ws) (x ∷ xs) a (suc m) h g e =
    let f : List ℕ → ℤ = λ ls. h (rows_from a (x ∷ xs) (w ∷ ws) ls) in
    let k : ℕ = suc (length ws) in
    let c : length (unused a w) ≡ suc (length xs) = count-alike (unused a w) (x ∷ xs) (unused-distinct a w g.0) (good-distinct ws (x ∷ xs) a g.2) (left w ws (x ∷ xs) a g) in
    let ih1 = bridge ws (unused a w) a m (λ u. h (x ∷ u)) (good-end w ws (x ∷ xs) a g) (omega (arith, c, e)) in
    let ih2 = bridge (w ∷ ws) xs (x ∷ a) m (λ u. h (x ∷ u)) (good-use (w ∷ ws) x xs a g) (omega (arith, e)) in
    let a1 = total-append f (map (λ ls. 1 ∷ ls) (row_lengths k (suc m))) (map with_longer_first (row_lengths (suc k) (suc m))) in
    let b1 = total-map f (λ ls. 1 ∷ ls) (row_lengths k (suc m)) in
    let c1 = total-map f with_longer_first (row_lengths (suc k) (suc m)) in
    let d : total (λ ls. f (1 ∷ ls)) (row_lengths k (suc m)) ≡ total (λ ls. h (x ∷ rows_from a (unused a w) ws ls)) (row_lengths k (suc m)) =
    ap (λ e. total e (row_lengths k (suc m))) (λ i ls. h (x ∷ rows-from a w ws ls i)) in
    let l = total-positive k (suc m) (λ ls. f (with_longer_first ls)) (λ ls. h (x ∷ rows_from (x ∷ a) xs (w ∷ ws) ls)) (λ q ls. ap h (rows-longer a xs x q (w ∷ ws) ls)) in
    omega (arith, ints)
