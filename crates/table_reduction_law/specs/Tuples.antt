-- Tuples of permutations: the generators of the Barratt-Eccles operad.
use Rattle.std.specs.Prelude.{ℕ, ◌-◌, ◌||◌, length, Bool, true, false, List, [], ◌∷◌, map, ℤ}
use Rattle.signed_sum.specs.Names.{IsDistinct, is_same_list, alternating_terms, kept_terms, without_each}
pub use Rattle.signed_sum.specs.Permutations.{entry_at}
use Rattle.surjection_law.specs.Names.{IsOnto}

-- w is a permutation of 1 to r, as the list of its values
pub record IsPermutationOf (r : ℕ) (w : List ℕ) : Type 0 where
  pub distinct : IsDistinct w
  pub onto : IsOnto r w

-- A tuple of degree d is a list of d + 1 permutations. Each is a permutation of 1 to r, the arity.
abbrev pub IsTuple : ℕ → List (List ℕ) → Type 0
IsTuple r [] = Unit {0}
IsTuple r (w ∷ ws) = IsPermutationOf r w × IsTuple r ws

-- how many numbers the first entry permutes
abbrev pub tuple_arity : List (List ℕ) → ℕ
tuple_arity [] = 0
tuple_arity (w ∷ ws) = length w

-- the number of entries less 1
abbrev pub tuple_degree : List (List ℕ) → ℕ
tuple_degree w = length w - 1

-- the permutation t acts on a tuple: it is applied to each value of each entry
abbrev pub permuted_tuple : List ℕ → List (List ℕ) → List (List ℕ)
permuted_tuple t ws = map (λ w. map (λ v. entry_at t v) w) ws

-- whether w is the first entry
abbrev pub begins_with_entry : List ℕ → List (List ℕ) → Bool
begins_with_entry w [] = false
begins_with_entry w (x ∷ ws) = is_same_list w x

-- whether two neighbours are equal
abbrev pub is_degenerate_tuple : List (List ℕ) → Bool
is_degenerate_tuple [] = false
is_degenerate_tuple (w ∷ ws) = begins_with_entry w ws || is_degenerate_tuple ws

-- what counts as zero: a degenerate tuple, and the empty list, which is no tuple
abbrev pub is_zero_tuple : List (List ℕ) → Bool
is_zero_tuple [] = true
is_zero_tuple (w ∷ ws) = is_degenerate_tuple (w ∷ ws)

-- The boundary of a tuple: the tuples without one entry, with alternating signs. In degree 0 it has
-- no terms.
abbrev pub tuple_boundary : List (List ℕ) → List (List (List ℕ) × ℤ)
tuple_boundary w = kept_terms is_zero_tuple (alternating_terms (without_each w))
