-- One step of the walk over the entries of a tuple.
use Rattle.std.specs.Prelude.{◌≡◌, ℕ, ◌≤◌, suc, List, ℤ, ◌+ℤ◌, ◌*ℤ◌, remove}
use Rattle.signed_sum.specs.Names.{restricted, value_at, weight_of}
use Rattle.table_reduction_law.specs.Names.{is_zero_tuple}

-- `new` is `old` plus s times the tuple without an entry, from 0, where that counts as no zero
pub record AddsFace (w : List (List ℕ)) (i : ℕ) (s : ℤ) (old new : List (List (List ℕ) × ℤ)) : Type 0 where
  pub sums : (phi : List (List ℕ) → ℤ) → value_at phi new ≡ s *ℤ restricted is_zero_tuple phi (remove w i) +ℤ value_at phi old
  pub grows : weight_of new ≤ suc (weight_of old)
