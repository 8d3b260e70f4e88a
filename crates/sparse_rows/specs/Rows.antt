-- Rows: pairs of a position and a value modulo p.
use Rattle.std.specs.Prelude.{◌≡◌, ◌≢◌, ℕ, ◌*◌, ◌<◌, List, map}
use Rattle.linear_law.specs.Names.{sum_over, Each, IsAscending, unit_vector}

-- The value at k: the sum of the values that stand there. A row has one at most, so it is that value, or 0.
abbrev pub value_in : List (ℕ × ℕ) → ℕ → ℕ
value_in pairs k = sum_over (λ e. e.1 * unit_vector e.0 k) pairs

-- Ascending positions, each with a value that is not 0
pub record IsRow (p : ℕ) (pairs : List (ℕ × ℕ)) : Type 0 where
  pub ascends : IsAscending (map (λ e. e.0) pairs)
  pub values : Each (λ e. (e.1 ≢ 0) × (e.1 < p)) pairs

-- All positions are below the bound
abbrev pub IsBelow : ℕ → List (ℕ × ℕ) → Type 0
IsBelow bound pairs = Each (λ e. e.0 < bound) pairs

-- k is the least position of a row
pub record IsFirst (pairs : List (ℕ × ℕ)) (k : ℕ) : Type 0 where
  pub nonzero : value_in pairs k ≢ 0
  pub least : (y : ℕ) → y < k → value_in pairs y ≡ 0

-- the sum of the products of the values
abbrev pub pairing : List (ℕ × ℕ) → List (ℕ × ℕ) → ℕ
pairing left right = sum_over (λ e. e.1 * value_in right e.0) left
