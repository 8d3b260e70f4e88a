-- Two rows walked side by side.
use Rattle.std.specs.Prelude.{◌≡◌, ℕ, ◌+◌, ◌*◌, ◌<◌, ◌≤◌, ◌⊎◌, List, length, slice_index_or, take}
use Rattle.linear_law.specs.Names.{unit_vector}
use Rattle.sparse_rows.specs.Rows.{value_in}

-- the position of the k-th pair
abbrev pub position_of : List (ℕ × ℕ) → ℕ → ℕ
position_of pairs k = (slice_index_or pairs k (0, 0)).0

-- from the i-th pair on, the positions are m or later
pub record StartsFrom (pairs : List (ℕ × ℕ)) (i m : ℕ) : Type 0 where
  pub each : (k : ℕ) → i ≤ k → k < length pairs → m ≤ position_of pairs k

-- the step from the i-th pair over what stands at m: `value` is what stands there
pub record StepsOver (pairs : List (ℕ × ℕ)) (i m next value : ℕ) : Type 0 where
  pub inside : next ≤ length pairs
  pub later : i ≤ next
  pub sum : (y : ℕ) → value_in (take next pairs) y ≡ value_in (take i pairs) y + value * unit_vector m y
  pub beyond : StartsFrom pairs next (m + 1)
  pub moves : i < length pairs → position_of pairs i ≡ m → i < next

-- m is the first position that is left in one of two rows
pub record IsNext (left right : List (ℕ × ℕ)) (i j m : ℕ) : Type 0 where
  pub left_from : StartsFrom left i m
  pub right_from : StartsFrom right j m
  pub one : ((i < length left) × (position_of left i ≡ m)) ⊎ ((j < length right) × (position_of right j ≡ m))
