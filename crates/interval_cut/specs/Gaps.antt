-- The word of the gaps of a face, in parts.
use Rattle.std.specs.Prelude.{◌≡◌, ℕ, ◌+◌, List, ◌++◌, drop, length}
use Rattle.surjection_law.specs.Names.{caesura_count}
use Rattle.interval_cut_law.specs.Names.{IsCutFrom, gap_symbols}

-- The gaps of face k are written up to its i-th interval, which begins at a, and j is the next caesura:
-- `done` is what stands before the place `next`.
pub record IsPartOfGaps (k : ℕ) (u p : List ℕ) (at i a j next : ℕ) (old done : List ℕ) : Type 0 where
  pub rest : IsCutFrom (drop i u) a (drop i p)
  pub caesura : j + caesura_count (drop i u) ≡ caesura_count u + 1
  pub long : next + length (gap_symbols k (caesura_count u) j (drop i u) a (drop i p)) ≡ at + length (gap_symbols k (caesura_count u) 1 u 0 p)
  pub written : done ++ gap_symbols k (caesura_count u) j (drop i u) a (drop i p) ≡ old ++ gap_symbols k (caesura_count u) 1 u 0 p
