-- Where a list of numbers up to a top can still be raised.
use Rattle.std.specs.Prelude.{ℕ, ◌<◌, ◌≤◌, List, length, suc, slice_index}

-- from the i-th on, no number is below the top
pub record IsFullFrom (top : ℕ) (list : List ℕ) (i : ℕ) : Type 0 where
  pub each : (k : ℕ) → i ≤ k → k < length list → top ≤ slice_index list k

-- the i-th number is the last one below the top
pub record IsLastBelow (top : ℕ) (list : List ℕ) (i : ℕ) : Type 0 where
  pub inside : i < length list
  pub below : slice_index list i < top
  pub rest : IsFullFrom top list (suc i)
