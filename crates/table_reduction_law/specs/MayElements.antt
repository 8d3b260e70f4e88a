-- May elements.
use Rattle.std.specs.Prelude.{ℕ, List, [], ◌∷◌, ◌++◌, flat_map, map, zero, suc, ℤ, pos}
use Rattle.signed_sum.specs.Names.{is_degenerate, numbers_from, kept_terms, unit_terms}
pub use Rattle.signed_sum.specs.Permutations.{cycle, cycle_power, turned}
use Rattle.table_reduction_law.specs.Reduction.{reduced_lists}

-- the turn of a list of values: the cycle is applied to each; the sign is 1
abbrev pub turned_values : ℕ → List ℕ → List ℕ × ℤ
turned_values p u = (map (cycle p) u, pos 1)

-- all lists of k pairs of a power and the next power, with exponents from 0 to p - 1
abbrev pub power_pairs : ℕ → ℕ → List (List (List ℕ))
power_pairs p zero = [] ∷ []
power_pairs p (suc k) =
    flat_map (λ e. map (λ t. cycle_power p e ∷ cycle_power p (suc e) ∷ t) (power_pairs p k)) (numbers_from 0 p)

-- the number of pairs in degree d
abbrev pub pair_count : ℕ → ℕ
pair_count zero = 0
pair_count (suc zero) = 0
pair_count (suc (suc d)) = suc (pair_count d)

-- the entries in front of the pairs: the identity, and in odd degrees the cycle after it
abbrev pub leading_entries : ℕ → ℕ → List (List ℕ)
leading_entries p zero = cycle_power p 0 ∷ []
leading_entries p (suc zero) = cycle_power p 0 ∷ cycle_power p 1 ∷ []
leading_entries p (suc (suc d)) = leading_entries p d

-- the tuples of which the May element of degree d is the table reduction
abbrev pub may_tuples : ℕ → ℕ → List (List (List ℕ))
may_tuples p d = map (λ t. leading_entries p d ++ t) (power_pairs p (pair_count d))

-- the lists that come from these tuples
abbrev pub may_candidates : ℕ → ℕ → List (List ℕ)
may_candidates p d = flat_map reduced_lists (may_tuples p d)

-- The May element of degree d for p: the sum of the table reductions of these tuples.
abbrev pub may_element : ℕ → ℕ → List (List ℕ × ℤ)
may_element p d = kept_terms is_degenerate (unit_terms (may_candidates p d))
