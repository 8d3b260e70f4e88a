-- Permutations of the numbers from 1 on, as lists of values.
use Rattle.std.specs.Prelude.{ℕ, ◌≤◌, List, map, length}
use Rattle.signed_sum.specs.Names.{numbers_from, entry_at}
use Rattle.table_reduction_law.specs.Names.{IsPermutationOf}

-- p is a permutation of the numbers from 1 to its length, which is at most 32
pub record IsPerm (p : List ℕ) : Type 0 where
  pub some : 1 ≤ length p
  pub short : length p ≤ 32
  pub permutation : IsPermutationOf (length p) p

-- i -> p (q i)
abbrev pub composed : List ℕ → List ℕ → List ℕ
composed p q = map (entry_at p) q

-- the identity on 1 to r
abbrev pub identity : ℕ → List ℕ
identity r = numbers_from 1 r
