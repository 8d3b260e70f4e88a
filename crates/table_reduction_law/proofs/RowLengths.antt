-- The lists of row lengths.
use Rattle.std.proofs.{Common.{◌≡◌, ℕ, zero, suc, ◌+◌, ◌&&◌, cond, ◌==◌, List, [], ◌∷◌, map, refl, ◌∙◌, ap, arith, ne_eqb, ℤ, pos, All, length, sum}, lemmas.List.Elements.{All-append, All-cons, All-map, All-nil, All-weaker}, lemmas.List.Sums.sum_by-cons, lemmas.Bool.Decides.nat_tests, lemmas.Int.ints}
use Rattle.signed_sum.{proofs.Names.{total-append, total-map, total-zero}, specs.Names.{is_same_list, total}}
use Rattle.table_reduction_law.{proofs.RowsAsWalks.total-positive, specs.Names.{ArePositive, RowLengthsLaw, row_lengths, with_longer_first}}

pub sum-cons : (n : ℕ) (ls : List ℕ) → sum (n ∷ ls) ≡ n + sum ls
sum-cons n ls = sum_by-cons (λ x. x) n ls

abbrev pub IsRight : ℕ → ℕ → List ℕ → Type 0
IsRight k n ls = ArePositive ls × (length ls ≡ k) × (sum ls ≡ n)

right-first : (k n : ℕ) (ls : List ℕ) → IsRight k n ls → IsRight (suc k) (suc n) (1 ∷ ls)
right-first k n ls h = ((omega arith, h.0), ap suc h.1, (let e = h.2 in omega (arith, e, sum-cons 1 ls)))

right-longer : (k n : ℕ) (ls : List ℕ) → IsRight (suc k) n ls → IsRight (suc k) (suc n) (with_longer_first ls)
right-longer k n [] h = absurd (let e = h.1 in omega (arith, e))
right-longer k n (m ∷ ls) h = ((omega arith, h.0.1), h.1, (let e = h.2 in omega (arith, e, sum-cons m ls, sum-cons (suc m) ls)))

pub all-right : (k n : ℕ) → All (IsRight k n) (row_lengths k n)
all-right zero zero = All-cons (IsRight 0 0) [] [] (tt, refl, refl) (All-nil (IsRight 0 0))
all-right zero (suc n) = All-nil (IsRight 0 (suc n))
all-right (suc k) zero = All-nil (IsRight (suc k) 0)
all-right (suc k) (suc n) =
    let P : List ℕ → Type 0 = IsRight (suc k) (suc n) in
    All-append P (map (λ ls. 1 ∷ ls) (row_lengths k n)) (map with_longer_first (row_lengths (suc k) n))
    (All-map P (λ ls. 1 ∷ ls) (row_lengths k n) (All-weaker (IsRight k n) (λ ls. P (1 ∷ ls)) (right-first k n) (row_lengths k n) (all-right k n)))
    (All-map P with_longer_first (row_lengths (suc k) n) (All-weaker (IsRight (suc k) n) (λ ls. P (with_longer_first ls)) (right-longer k n) (row_lengths (suc k) n) (all-right (suc k) n)))

-- 1 for the list ls, and 0 for others
abbrev mark : List ℕ → List ℕ → ℤ
mark ls l = cond (is_same_list ls l) (pos 1) (pos 0)

suc-test : (x y : ℕ) → (suc x == suc y) ≡ (x == y)
suc-test x y = grind (arith, nat_tests)

-- by the first number
once-first : (q k n : ℕ) (ls : List ℕ) → total (mark ls) (row_lengths k n) ≡ pos 1 → total (mark (suc q ∷ ls)) (row_lengths (suc k) (suc (q + n))) ≡ pos 1
once-first zero k n ls h =
    let N : ℕ = zero + n in
    let e : N ≡ n = omega arith in
    let f : List ℕ → ℤ = mark (1 ∷ ls) in
    let a = total-append f (map (λ l. 1 ∷ l) (row_lengths k N)) (map with_longer_first (row_lengths (suc k) N)) in
    let b = total-map f (λ l. 1 ∷ l) (row_lengths k N) in
    let c = total-map f with_longer_first (row_lengths (suc k) N) in
    let d = total-positive k N (λ l. f (with_longer_first l)) (λ l. pos 0) (λ q l. ap (λ b. cond (b && is_same_list ls l) (pos 1) (pos 0)) (ne_eqb 1 (suc (suc q)) (λ e. absurd (omega (arith, e))))) in
    let z = total-zero (row_lengths (suc k) N) in
    let m : total (λ l. f (1 ∷ l)) (row_lengths k N) ≡ pos 1 = ap (λ j. total (mark ls) (row_lengths k j)) e ∙ h in
    omega (arith, ints)
once-first (suc q) k n ls h =
    let N : ℕ = suc q + n in
    let e : N ≡ suc (q + n) = omega arith in
    let f : List ℕ → ℤ = mark (suc (suc q) ∷ ls) in
    let a = total-append f (map (λ l. 1 ∷ l) (row_lengths k N)) (map with_longer_first (row_lengths (suc k) N)) in
    let b = total-map f (λ l. 1 ∷ l) (row_lengths k N) in
    let c = total-map f with_longer_first (row_lengths (suc k) N) in
    let d = total-positive k N (λ l. f (with_longer_first l)) (mark (suc q ∷ ls)) (λ m l. ap (λ b. cond (b && is_same_list ls l) (pos 1) (pos 0)) (suc-test (suc q) (suc m))) in
    let z : total (λ l. f (1 ∷ l)) (row_lengths k N) ≡ pos 0 = ap (λ g. total g (row_lengths k N)) (λ i l. cond (ne_eqb (suc (suc q)) 1 (λ e. absurd (omega (arith, e))) i && is_same_list ls l) (pos 1) (pos 0)) ∙ total-zero (row_lengths k N) in
    let m : total (mark (suc q ∷ ls)) (row_lengths (suc k) N) ≡ pos 1 = ap (λ j. total (mark (suc q ∷ ls)) (row_lengths (suc k) j)) e ∙ once-first q k n ls h in
    omega (arith, ints)

once : (ls : List ℕ) → ArePositive ls → total (mark ls) (row_lengths (length ls) (sum ls)) ≡ pos 1
once [] h = refl
once (zero ∷ ls) h = absurd (let e = h.0 in omega (arith, e))
once (suc q ∷ ls) h =
    let e : sum (suc q ∷ ls) ≡ suc (q + sum ls) = omega (arith, sum-cons (suc q) ls) in
    ap (λ j. total (mark (suc q ∷ ls)) (row_lengths (suc (length ls)) j)) e ∙ once-first q (length ls) (sum ls) ls (once ls h.1)

pub row_lengths_law : RowLengthsLaw
row_lengths_law = record { right = all-right; once = once }
