-- Pairs in the wrong order, and the sign of a rearrangement.
use Rattle.std.specs.Prelude.{ℕ, ◌+◌, ◌==◌, List, [], ◌∷◌, ℤ, pos, cond}
use Rattle.signed_sum.specs.Signs.{signed}

-- how many entries of the list come before x in an order: `before y x` is 1 where y comes before x, else 0
abbrev pub count_before : (ℕ → ℕ → ℕ) → ℕ → List ℕ → ℕ
count_before before x [] = 0
count_before before x (y ∷ w) = before y x + count_before before x w

-- the number of pairs of places whose entries stand in the wrong order
abbrev pub inversion_count : (ℕ → ℕ → ℕ) → List ℕ → ℕ
inversion_count before [] = 0
inversion_count before (x ∷ w) = count_before before x w + inversion_count before w

-- the order of a word: 1 where y is met before x, read from the left, else 0
abbrev pub stands_before : List ℕ → ℕ → ℕ → ℕ
stands_before [] y x = 0
stands_before (z ∷ w) y x = cond (x == z) 0 (cond (y == z) 1 (stands_before w y x))

-- The sign of the rearrangement of one word into another, with the same different symbols: -1 to the
-- number of pairs that stand in different order in the two.
abbrev pub rearrangement_sign : List ℕ → List ℕ → ℤ
rearrangement_sign from to = signed (inversion_count (stands_before to) from) (pos 1)
