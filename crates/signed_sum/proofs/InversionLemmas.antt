-- Pairs in different order, with a symbol in front.
use Rattle.std.proofs.Common.{◌≡◌, ℕ, zero, suc, ◌+◌, ◌<◌, ◌≤◌, ◌≢◌, List, [], ◌∷◌, ◌++◌, length, refl, ap, arith, eq-eqb, ne_eqb}
use Rattle.signed_sum.specs.Names.{count_before, inversion_count, stands_before, numbers_from}

-- z is no entry
abbrev pub Apart : ℕ → List ℕ → Type 0
Apart z [] = Unit {0}
Apart z (x ∷ xs) = (x ≢ z) × Apart z xs

pub apart-below : (z a m : ℕ) → z < a → Apart z (numbers_from a m)
apart-below z a zero h = tt
apart-below z a (suc m) h = (λ e. omega (arith, e, h), apart-below z (suc a) m (omega (arith, h)))

pub apart-above : (z a m : ℕ) → a + m ≤ z → Apart z (numbers_from a m)
apart-above z a zero h = tt
apart-above z a (suc m) h = (λ e. omega (arith, e, h), apart-above z (suc a) m (omega (arith, h)))

pub apart-append : (z : ℕ) (xs ys : List ℕ) → Apart z xs → Apart z ys → Apart z (xs ++ ys)
apart-append z [] ys a b = b
apart-append z (x ∷ xs) ys a b = (a.0, apart-append z xs ys a.1 b)

pub before-first : (z : ℕ) (w ys : List ℕ) → count_before (stands_before (z ∷ w)) z ys ≡ 0
before-first z w [] = refl
before-first z w (y ∷ ys) = rw (eq-eqb z z refl) (let h = before-first z w ys in omega (arith, h))

before-later : (z x : ℕ) (w ys : List ℕ) → x ≢ z → Apart z ys → count_before (stands_before (z ∷ w)) x ys ≡ count_before (stands_before w) x ys
before-later z x w [] d a = refl
before-later z x w (y ∷ ys) d a = rw (ne_eqb x z d, ne_eqb y z a.0) (ap (λ n. stands_before w y x + n) (before-later z x w ys d a.1))

pub pairs-later : (z : ℕ) (w xs : List ℕ) → Apart z xs → inversion_count (stands_before (z ∷ w)) xs ≡ inversion_count (stands_before w) xs
pairs-later z w [] a = refl
pairs-later z w (x ∷ xs) a = λ i. before-later z x w xs a.0 a.1 i + pairs-later z w xs a.1 i

before-among : (z x : ℕ) (w xs ys : List ℕ) → x ≢ z → Apart z xs → Apart z ys → count_before (stands_before (z ∷ w)) x (xs ++ z ∷ ys) ≡ suc (count_before (stands_before w) x (xs ++ ys))
before-among z x w [] ys d a b = rw (ne_eqb x z d, eq-eqb z z refl) (let h = before-later z x w ys d b in omega (arith, h))
before-among z x w (y ∷ xs) ys d a b = let h = before-among z x w xs ys d a.1 b in rw (ne_eqb x z d, ne_eqb y z a.0) (omega (arith, h))

-- z goes in front of all of xs
pub pairs-among : (z : ℕ) (w xs ys : List ℕ) → Apart z xs → Apart z ys → inversion_count (stands_before (z ∷ w)) (xs ++ z ∷ ys) ≡ length xs + inversion_count (stands_before w) (xs ++ ys)
pairs-among z w [] ys a b = let h = before-first z w ys in let g = pairs-later z w ys b in omega (arith, h, g)
pairs-among z w (x ∷ xs) ys a b = let h = before-among z x w xs ys a.0 a.1 b in let g = pairs-among z w xs ys a.1 b in omega (arith, h, g)
