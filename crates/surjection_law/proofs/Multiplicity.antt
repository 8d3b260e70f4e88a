-- How often a value comes in a list.
use Rattle.std.proofs.{Common.{◌≡◌, ℕ, suc, ◌≢◌, cond, eqb, List, [], ◌∷◌, refl, arith, eq-eqb, ne_eqb}, lemmas.Bool.Decides.nat_tests}
use Rattle.signed_sum.specs.Names.{occurs}
use Rattle.surjection_law.specs.Names.{multiplicity}

-- the list without the first x
abbrev pub without_first : ℕ → List ℕ → List ℕ
without_first x [] = []
without_first x (y ∷ ys) = cond (eqb x y) ys (y ∷ without_first x ys)

pub multiplicity-same : (x y : ℕ) (xs : List ℕ) → x ≡ y → multiplicity x (y ∷ xs) ≡ suc (multiplicity x xs)
multiplicity-same x y xs e = rw (eq-eqb x y e) refl

pub multiplicity-other : (x y : ℕ) (xs : List ℕ) → x ≢ y → multiplicity x (y ∷ xs) ≡ multiplicity x xs
multiplicity-other x y xs e = rw (ne_eqb x y e) refl

pub multiplicity-without_other : (x y : ℕ) (xs : List ℕ) → x ≢ y → multiplicity x (without_first y xs) ≡ multiplicity x xs
multiplicity-without_other x y [] d = refl
multiplicity-without_other x y (z ∷ xs) d = grind (arith, nat_tests, multiplicity-without_other x y xs d)

-- a value occurs where its multiplicity is not 0
pub multiplicity-none : (x : ℕ) (xs : List ℕ) → multiplicity x xs ≡ 0 → occurs x xs ≡ 0
multiplicity-none x [] h = refl
multiplicity-none x (y ∷ ys) h = grind (arith, nat_tests, multiplicity-none x ys)

pub occurs-multiplicity : (x : ℕ) (xs : List ℕ) → occurs x xs ≡ 0 → multiplicity x xs ≡ 0
occurs-multiplicity x [] h = refl
occurs-multiplicity x (y ∷ ys) h = grind (arith, nat_tests, occurs-multiplicity x ys)

pub multiplicity-some : (x : ℕ) (xs : List ℕ) → multiplicity x xs ≢ 0 → occurs x xs ≢ 0
multiplicity-some x xs n e = n (occurs-multiplicity x xs e)
