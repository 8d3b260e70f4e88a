-- Steps of the sums over places and over cuts: forms for proofs.
use Rattle.std.specs.Prelude.{◌≡◌, ℕ, ◌+◌, ◌≤◌, suc, List, length, ℤ, ◌+ℤ◌, ◌*ℤ◌}
use Rattle.signed_sum.specs.Names.{normalized, value_at, weight_of}

-- `new` is `old` plus s times the list w, where that is not degenerate
pub record AddsList (w : List ℕ) (s : ℤ) (old new : List (List ℕ × ℤ)) : Type 0 where
  pub sums : (phi : List ℕ → ℤ) → value_at phi new ≡ s *ℤ normalized phi w +ℤ value_at phi old
  pub grows : weight_of new ≤ suc (weight_of old)

-- `new` is `old` plus the terms that are not degenerate
pub record AddsTerms (ts old new : List (List ℕ × ℤ)) : Type 0 where
  pub sums : (phi : List ℕ → ℤ) → value_at phi new ≡ value_at (normalized phi) ts +ℤ value_at phi old
  pub grows : weight_of new ≤ length ts + weight_of old
