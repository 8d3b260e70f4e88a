-- Table reduction: from tuples of permutations to surjections.
use Rattle.std.specs.Prelude.{ℕ, ◌+◌, List, [], ◌∷◌, ◌++◌, length, map, pred, take, zero, suc, ℤ}
use Rattle.signed_sum.specs.Names.{is_degenerate, occurs, kept_terms, unit_terms}

-- x in front of w where n is 0, else w alone
abbrev pub cons_if_zero : ℕ → ℕ → List ℕ → List ℕ
cons_if_zero zero x w = x ∷ w
cons_if_zero (suc n) x w = w

-- the entries of w that do not stand in `used`, in order
abbrev pub unused : List ℕ → List ℕ → List ℕ
unused used [] = []
unused used (x ∷ w) = cons_if_zero (occurs x used) x (unused used w)

-- the rows of the lengths `ls`, one after the other. Row i is the first ri entries of wi that are
-- not among `used`, the entries of earlier rows that are not the last of their row
abbrev pub rows : List ℕ → List (List ℕ) → List ℕ → List ℕ
rows used [] ls = []
rows used (w ∷ ws) [] = []
rows used (w ∷ ws) (n ∷ ls) = take n (unused used w) ++ rows (take (pred n) (unused used w) ++ used) ws ls

-- one more at the first number
abbrev pub with_longer_first : List ℕ → List ℕ
with_longer_first [] = []
with_longer_first (n ∷ ls) = suc n ∷ ls

-- the lists of k positive numbers with the sum n: the first is 1, or it is greater by one than in a
-- list with the sum n - 1
abbrev pub row_lengths : ℕ → ℕ → List (List ℕ)
row_lengths zero zero = [] ∷ []
row_lengths zero (suc n) = []
row_lengths (suc k) zero = []
row_lengths (suc k) (suc n) = map (λ ls. 1 ∷ ls) (row_lengths k n) ++ map with_longer_first (row_lengths (suc k) n)

-- the lists that come from a tuple of arity r and degree d: one for each list of row lengths with
-- the sum r + d
abbrev pub reduced_lists : List (List ℕ) → List (List ℕ)
reduced_lists [] = []
reduced_lists (w ∷ ws) = map (λ ls. rows [] (w ∷ ws) ls) (row_lengths (suc (length ws)) (length w + length ws))

-- The table reduction of a tuple: the sum of these lists, without those that are degenerate.
abbrev pub table_reduction : List (List ℕ) → List (List ℕ × ℤ)
table_reduction w = kept_terms is_degenerate (unit_terms (reduced_lists w))
