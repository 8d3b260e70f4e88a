-- The walk over the intervals of a cut from the right.
use Rattle.std.specs.Prelude.{◌≡◌, ℕ, ◌≤◌, List, ◌∷◌, drop, length, slice_index, sum, take}
use Rattle.interval_cut_law.specs.Names.{lengths_below, sign_exponent}

-- The intervals from the i-th on are passed: `sizes` has the sum of their lengths for each value up to 32,
-- and `done` is their exponent.
pub record IsPassed (u p : List ℕ) (i : ℕ) (sizes : List ℕ) (done : ℕ) : Type 0 where
  pub within : i ≤ length u
  pub wide : length sizes ≡ 33
  pub below : (v : ℕ) → v ≤ 33 → sum (take v sizes) ≡ lengths_below v (drop i u) (slice_index (0 ∷ p) i) (drop i p)
  pub exponent : done ≡ sign_exponent (drop i u) (slice_index (0 ∷ p) i) (drop i p)
