-- Why a list is no surjection.
use Rattle.std.specs.Prelude.{ℕ, ◌-◌, ◌==◌, ◌||◌, nat_lt, List, [], ◌∷◌, Option, None, Some, cond, length, suc, find}
use Rattle.signed_sum.specs.Names.{begins_with, numbers_from, occurs}
use Rattle.surjection_law.specs.Names.{arity}
use Rattle.surjection.specs.declared.surj.{NotASurjection.NotASurjection, NotASurjection.TheVariants.{Empty, TooLong, Gap, EqualNeighbours}}

-- 0 where it is a value, else the least value from 1 and below the greatest that is missing
abbrev pub gap_of : List ℕ → Option ℕ
gap_of u = cond (occurs 0 u == 1) (Some 0) (find (λ v. occurs v u == 0) (numbers_from 1 (arity u - 1)))

-- the first place whose value is the one before it, where the list begins at the place `from`
abbrev pub equal_neighbours_from : ℕ → List ℕ → Option ℕ
equal_neighbours_from from [] = None
equal_neighbours_from from (x ∷ xs) = cond (begins_with x xs) (Some (suc from)) (equal_neighbours_from (suc from) xs)

abbrev pub gap_fault : Option ℕ → Option NotASurjection → Option NotASurjection
gap_fault None other = other
gap_fault (Some v) other = Some (Gap v)

abbrev pub neighbours_fault : Option ℕ → Option NotASurjection
neighbours_fault None = None
neighbours_fault (Some place) = Some (EqualNeighbours place)

-- The first fault, in this order: there is no value; there are more than 255, or one is above 32; a
-- value is missing, or 0 is one; two neighbours are equal.
abbrev pub surjection_fault : List ℕ → Option NotASurjection
surjection_fault u =
    cond (length u == 0) (Some Empty)
    (cond (nat_lt 255 (length u) || nat_lt 32 (arity u)) (Some TooLong)
    (gap_fault (gap_of u) (neighbours_fault (equal_neighbours_from 1 u))))
