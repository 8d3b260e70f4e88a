-- Pairing vectors with cycles.
use Rattle.std.specs.Prelude.{ℕ, ◌+◌, ◌*◌, ◌<◌, ◌≢◌, zero, suc, List, map}
use Rattle.linear_law.specs.Congruence.{Congruent}
use Rattle.linear_law.specs.Lists.{Each, Among}

-- the sum over the places below n of v times f
abbrev pub paired : ℕ → (ℕ → ℕ) → (ℕ → ℕ) → ℕ
paired zero v f = 0
paired (suc n) v f = paired n v f + v n * f n

-- The cycle of s: 1 at s, else not zero at most at the leads, and it pairs to zero with each row.
pub record IsCycle {S : Type 0} (p n : ℕ) (lead : S → ℕ) (value : S → ℕ → ℕ) (rows : List S) (s : ℕ) (f : ℕ → ℕ) : Type 0 where
  pub inside : s < n
  pub apart : Among s (map lead rows) → ⊥
  pub one : Congruent p (f s) 1
  pub support : (x : ℕ) → x < n → x ≢ s → (Among x (map lead rows) → ⊥) → Congruent p (f x) 0
  pub pairs : Each (λ r. Congruent p (paired n (value r) f) 0) rows
