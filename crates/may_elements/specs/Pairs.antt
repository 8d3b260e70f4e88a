-- Walks over pairs of powers of the cycle.
use Rattle.std.specs.Prelude.{◌≡◌, ◌≤◌, ◌<◌, ℕ, suc, ◌+◌, ◌*◌, Bool, cond, false, length, List, [], ◌∷◌, ◌++◌, Option, None, Some, ℤ, ◌+ℤ◌}
use Rattle.signed_sum.specs.Names.{IsDistinct, cycle_power, is_degenerate, normalized, numbers_from, occurs, restricted, total}
use Rattle.interval_cut.specs.Names.{times}
use Rattle.table_reduction.specs.Walks.{ahead}
use Rattle.table_reduction_law.proofs.PowerPairs.{pair_sum, sum_below}

-- the list, unless it is left out
abbrev pub unless_out : (List ℕ → Bool) → List ℕ → List (List ℕ)
unless_out out u = cond (out u) [] (u ∷ [])

-- a value comes more than q + 1 times, where a degree q is given: a face of each cut is too long for it
abbrev pub IsCrowded : Option ℕ → List ℕ → Type 0
IsCrowded None u = ⊥
IsCrowded (Some q) u = (v : ℕ) × (suc q < times v u)

-- `new` is `old` and the lists that begin with `values` and go on with unused entries of `left`, the rest of a row, of the
-- rows `later`, and of k pairs of a power of the cycle of 1 to p and the next, without those that are degenerate, and those that are left out
pub record AddsLists (out : List ℕ → Bool) (p k : ℕ) (later : List (List ℕ)) (left used values : List ℕ) (old new : List (List ℕ)) : Type 0 where
  pub at : (phi : List ℕ → ℤ) → total phi new ≡ total phi old +ℤ pair_sum p k (λ t. ahead (later ++ t) left used values (normalized (restricted out phi)))

-- the same, where a row has ended, and the exponent of the pair that comes next is below n
pub record AddsBelow (out : List ℕ → Bool) (p k n : ℕ) (used values : List ℕ) (old new : List (List ℕ)) : Type 0 where
  pub at : (phi : List ℕ → ℤ) →
      total phi new ≡ total phi old +ℤ sum_below n (λ e. pair_sum p k (λ t. ahead (cycle_power p (suc e) ∷ t) (cycle_power p e) used values (normalized (restricted out phi))))

-- what is written where k pairs follow: used entries, and no others than 1 to p
pub record IsBegun (p k : ℕ) (used values : List ℕ) : Type 0 where
  pub plain : is_degenerate values ≡ false
  pub inside : (v : ℕ) → occurs v values ≤ occurs v (numbers_from 1 p)
  pub written : (v : ℕ) → occurs v used ≤ occurs v values
  pub short : length values + k * suc p ≤ 255

-- the same within a row: each number from 1 to p is written or left
pub record IsAt (p k : ℕ) (left used values : List ℕ) : Type 0 where
  pub begun : IsBegun p k used values
  pub row : IsDistinct left
  pub among : (v : ℕ) → occurs v left ≤ occurs v (numbers_from 1 p)
  pub covers : (v : ℕ) → occurs v (numbers_from 1 p) ≤ occurs v values + occurs v left
  pub fits : length values + (length left + k * suc p) ≤ 255
