-- Tuples of permutations as generators of the Barratt-Eccles operad, after Berger and Fresse.
use Rattle.std.specs.Prelude.{◌≡◌, ℕ, ◌-◌, ◌≤◌, false, List, [], ◌∷◌, length, ℤ, pos}
use Rattle.signed_sum.specs.Names.{cycle_power}
use Rattle.table_reduction_law.specs.Names.{IsTuple, is_degenerate_tuple, permuted_tuple, tuple_arity}

-- w is a generator: a list of 1 to 201 permutations of the numbers from 1 to r, where r is from 1 to
-- 32, and no two neighbours are equal
pub record IsGenerator (w : List (List ℕ)) : Type 0 where
  pub some : 1 ≤ length w
  pub short : length w ≤ 201
  pub wide : 1 ≤ tuple_arity w
  pub narrow : tuple_arity w ≤ 32
  pub entries : IsTuple (tuple_arity w) w
  pub plain : is_degenerate_tuple w ≡ false

-- the cycle 1 -> 2 -> .. -> p -> 1 acts on a tuple; the sign is 1
abbrev pub turned_tuple : ℕ → List (List ℕ) → List (List ℕ) × ℤ
turned_tuple p w = (permuted_tuple (cycle_power p 1) w, pos 1)
