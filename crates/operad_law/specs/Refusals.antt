-- Where a list is refused: the first place at which a test of its entry holds.
use Rattle.std.specs.Prelude.{ℕ, ◌==◌, ◌||◌, nat_lt, Bool, List, [], ◌∷◌, ◌++◌, Option, None, Some, cond, length, suc}
use Rattle.signed_sum.specs.Names.{occurs}

-- the first place, from 1, of an entry for which the test holds; the test gets the entries before it
-- (`before` and what follows) and the entry
abbrev pub first_place_from : (List ℕ → ℕ → Bool) → List ℕ → List ℕ → Option ℕ
first_place_from test before [] = None
first_place_from test before (v ∷ rest) =
    cond (test before v) (Some (suc (length before))) (first_place_from test (before ++ (v ∷ [])) rest)

-- the first place, from 1, of an entry that stands at an earlier place
abbrev pub repeated_place : List ℕ → Option ℕ
repeated_place w = first_place_from (λ before v. occurs v before == 1) [] w

-- whether v is not from 1 to n, or stands before
abbrev pub is_misplaced : ℕ → List ℕ → ℕ → Bool
is_misplaced n before v = (v == 0) || (nat_lt n v || (occurs v before == 1))

-- Where a list is no permutation of 1 to its length, or is empty or longer than 32: 0 if it is empty
-- or longer than 32, else the first place, from 1, whose value is not from 1 to the length or stands
-- at an earlier place.
abbrev pub permutation_fault : List ℕ → Option ℕ
permutation_fault p =
    cond ((length p == 0) || nat_lt 32 (length p)) (Some 0) (first_place_from (is_misplaced (length p)) [] p)
