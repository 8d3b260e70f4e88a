-- Values of sums of surjections on cochains with whole values, and the primitives of the laws.
use Rattle.std.specs.Prelude.{ℕ, ◌-◌, ◌%◌, Bool, cond, List, flat_map, map, ℤ, ◌+ℤ◌, ◌*ℤ◌, zero, suc}
use Rattle.signed_sum.specs.Names.{difference, signed, total, value_at}
use Rattle.simplicial_law.specs.Names.{integral_coboundary}
use Rattle.interval_cut_law.specs.Names.{operation_value}
use Rattle.table_reduction_law.specs.Names.{turned_values}
use Rattle.steenrod_law.specs.Words.{choice, staircase}

-- the value of the sum x of surjections of arity p on the cochains `cs`
abbrev pub sum_value : ℕ → List (List ℕ × ℤ) → List (List ℕ → ℤ) → List ℕ → ℤ
sum_value p x cs s = value_at (λ u. operation_value p u cs s) x

-- the cochains of a word, where `false` stands for a and `true` for b
abbrev pub word_cochains : (List ℕ → ℤ) → (List ℕ → ℤ) → List Bool → List (List ℕ → ℤ)
word_cochains a b w = map (λ l. cond l b a) w

-- what f makes of the terms of a sum, each times its coefficient
abbrev pub applied : {X : Type 0} → (X → List (X × ℤ)) → List (X × ℤ) → List (X × ℤ)
applied f x = flat_map (λ t. map (λ s. (s.0, t.1 *ℤ s.1)) (f t.0)) x

-- T^k x, where T is the turn less the identity
abbrev pub cycle_less_one_power : ℕ → ℕ → List (List ℕ × ℤ) → List (List ℕ × ℤ)
cycle_less_one_power p zero x = x
cycle_less_one_power p (suc k) x = applied (difference (turned_values p)) (cycle_less_one_power p k x)

-- the sum that the primitive of additivity is made with, where x gives a sum for each degree: that of
-- degree d + 1 for odd d, and T^(p-2) of it for even d
abbrev pub sum_above : ℕ → ℕ → (ℕ → List (List ℕ × ℤ)) → List (List ℕ × ℤ)
sum_above p d x = choice (d % 2) (cycle_less_one_power p (p - 2) (x (suc d))) (x (suc d))

-- the sum over the orbit words of the value of that sum on the cochains of the word
abbrev pub orbit_sum : ℕ → ℕ → (ℕ → List (List ℕ × ℤ)) → List (List Bool) → (List ℕ → ℤ) → (List ℕ → ℤ) → List ℕ → ℤ
orbit_sum p d x ms a c s = total (λ w. sum_value p (sum_above p d x) (word_cochains a c w) s) ms

-- the sum of f over 0 to d
abbrev pub sum_to : ℕ → (ℕ → ℤ) → ℤ
sum_to zero f = f 0
sum_to (suc d) f = sum_to d f +ℤ f (suc d)

-- the sum over j from 0 to d of (-1)^(d-j) times the value of x_(d-j) on the sum E_(j+1) of words, where
-- `false` stands for y, of degree n, and `true` for its coboundary
abbrev pub staircase_sum : ℕ → ℕ → ℕ → (ℕ → List (List ℕ × ℤ)) → (List ℕ → ℤ) → List ℕ → ℤ
staircase_sum p n d x y s =
    sum_to d (λ j. signed (d - j) (staircase p n d j (λ w. sum_value p (x (d - j)) (word_cochains y (integral_coboundary y) w) s)))
