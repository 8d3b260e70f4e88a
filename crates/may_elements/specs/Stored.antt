-- Stored May elements, and the boundary relations.
use Rattle.std.specs.Prelude.{ℕ, zero, suc, ◌==◌, ◌%◌, ◌&&◌, cond, List, [], ◌∷◌, Option, None, Some, ℤ, pos}
use Rattle.operad_law.specs.FormalSums.{IsSameSum}
use Rattle.signed_sum.specs.Names.{difference, power_sum, value_at}
use Rattle.table_reduction_law.specs.Names.{may_element, turned_values}
use Rattle.may_elements.specs.Live.{live_part}

-- sums, each under the degree of a May element and that of the cochains that operations are made on
abbrev pub Parts : Type 0
Parts = List ((ℕ × ℕ) × List (List ℕ × ℤ))

-- the sum that is stored for the May element of degree d and cochains of degree q
abbrev pub stored_at : ℕ → ℕ → Parts → Option (List (List ℕ × ℤ))
stored_at d q [] = None
stored_at d q (t ∷ ts) = cond (t.0.0 == d && t.0.1 == q) (Some t.1) (stored_at d q ts)

-- each stored sum is what operations see of the May element
abbrev pub AreLiveParts : ℕ → Parts → Type 0
AreLiveParts p [] = Unit {0}
AreLiveParts p (t ∷ ts) = IsSameSum t.1 (live_part p t.0.0 t.0.1) × AreLiveParts p ts

-- The value at h of what the boundary of the May element of degree d is: nothing in degree 0, else T of
-- the element of one degree less, where that degree is even, and N of it, where it is odd. T is the
-- turn less the identity, N the sum of the powers of the turn.
abbrev pub boundary_value : ℕ → ℕ → (List ℕ → ℤ) → ℤ
boundary_value p zero h = pos 0
boundary_value p (suc d) h =
    value_at (λ u. value_at h (cond (d % 2 == 0) (difference (turned_values p) u) (power_sum (turned_values p) p u))) (may_element p d)
