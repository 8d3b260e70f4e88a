-- Permutations of 1 to r as lists of values, and the powers of the cycle.
use Rattle.std.specs.Prelude.{ℕ, ◌==◌, cond, List, ◌∷◌, map, get_or, zero, suc}
use Rattle.signed_sum.specs.Lists.{numbers_from}

-- the value at a place, from 1; 0 at 0 and past the end
abbrev pub entry_at : List ℕ → ℕ → ℕ
entry_at t v = get_or (0 ∷ t) v 0

-- the cycle 1 -> 2 -> .. -> p -> 1
abbrev pub cycle : ℕ → ℕ → ℕ
cycle p v = cond (v == p) 1 (suc v)

-- a list of values turned e times by the cycle
abbrev pub turned : ℕ → ℕ → List ℕ → List ℕ
turned p zero u = u
turned p (suc e) u = map (cycle p) (turned p e u)

-- the powers of the cycle, each as the list of its values
abbrev pub cycle_power : ℕ → ℕ → List ℕ
cycle_power p e = turned p e (numbers_from 1 p)
