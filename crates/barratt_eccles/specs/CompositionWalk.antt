-- The walk over the lattice paths, entry by entry.
use Rattle.std.specs.Prelude.{◌≡◌, ℕ, ◌+◌, ◌-◌, ◌≤◌, List, [], ◌∷◌, ◌++◌, length, suc, ℤ, ◌+ℤ◌, ◌*ℤ◌}
use Rattle.signed_sum.specs.Names.{restricted, value_at, weight_of}
use Rattle.table_reduction_law.specs.Names.{IsTuple, is_degenerate_tuple}
use Rattle.composition_law.specs.Tuples.{lattice_paths, path_sum}

-- the number of these paths
abbrev pub paths_through : List (List ℕ) → List (List ℕ) → ℕ
paths_through [] vs = 0
paths_through (w ∷ ws) [] = 0
paths_through (w ∷ ws) (v ∷ vs) = length (lattice_paths (length ws) (length vs))

-- `new` is `old` plus s times the sum over the paths through two lists, where `before` comes first
pub record AddsPaths (k : ℕ) (outer inner before : List (List ℕ)) (s : ℤ) (old new : List (List (List ℕ) × ℤ)) : Type 0 where
  pub sums : (phi : List (List ℕ) → ℤ) → value_at phi new ≡ s *ℤ path_sum k outer inner (λ r. restricted is_degenerate_tuple phi (before ++ r)) +ℤ value_at phi old
  pub grows : weight_of new ≤ weight_of old + paths_through outer inner

-- `new` is `old` plus s times a tuple, where that is not degenerate
pub record AddsTuple (w : List (List ℕ)) (s : ℤ) (old new : List (List (List ℕ) × ℤ)) : Type 0 where
  pub sums : (phi : List (List ℕ) → ℤ) → value_at phi new ≡ s *ℤ restricted is_degenerate_tuple phi w +ℤ value_at phi old
  pub grows : weight_of new ≤ suc (weight_of old)

-- `outer` and `inner` are the rest of two tuples of arities r and s from a point of a path on, and
-- `before` has the entries at the points before it
pub record IsAtPoint (k : ℕ) (outer inner before : List (List ℕ)) : Type 0 where
  pub r : ℕ
  pub s : ℕ
  pub place : 1 ≤ k
  pub within : k ≤ r
  pub some : 1 ≤ s
  pub narrow : r + s ≤ 33
  pub outer_entries : IsTuple r outer
  pub inner_entries : IsTuple s inner
  pub entries : IsTuple (r + s - 1) before
  pub short : length before + length outer + length inner ≤ 202
