-- What a walk over the rows of a tuple adds to a sum.
use Rattle.std.specs.Prelude.{◌≡◌, ℕ, suc, ◌+◌, ◌^◌, ◌≤◌, ◌==◌, length, Bool, false, cond, is_some, List, [], ◌∷◌, ◌++◌, ℤ, ◌+ℤ◌}
use Rattle.signed_sum.specs.Names.{is_degenerate, normalized, value_at, weight_of}
use Rattle.surjection.specs.Names.{surjection_fault}
use Rattle.table_reduction_law.{specs.Names.unused, proofs.ReductionWalks.walk}

-- whether x is the last entry
abbrev pub is_last : ℕ → List ℕ → Bool
is_last x [] = false
is_last x (y ∷ []) = x == y
is_last x (y ∷ z ∷ u) = is_last x (z ∷ u)

-- the sum of h over the lists that begin with `values` and go on with unused entries of `left`, the rest
-- of a row, and of the later rows
abbrev pub ahead : List (List ℕ) → List ℕ → List ℕ → List ℕ → (List ℕ → ℤ) → ℤ
ahead later left used values h = walk later (unused used left) used (λ u. h (values ++ u))

-- what a list needs of the weight of a sum: nothing if it is degenerate, 1 if it is a surjection, and else
-- more than a sum may have
abbrev pub weight_needed : List ℕ → ℕ
weight_needed u = cond (is_degenerate u) 0 (cond (is_some (surjection_fault u)) (suc (10 ^ 18)) 1)

-- the sum of f over what may stand from here on, as a natural number
abbrev pub count_ahead : List (List ℕ) → List ℕ → List ℕ → (List ℕ → ℕ) → ℕ
count_ahead [] xs a f = f xs
count_ahead (w ∷ ws) [] a f = 0
count_ahead (w ∷ ws) (x ∷ xs) a f = count_ahead ws (unused a w) a (λ u. f (x ∷ u)) + count_ahead (w ∷ ws) xs (x ∷ a) (λ u. f (x ∷ u))

-- what these lists need of the weight of a sum
abbrev pub needed : List (List ℕ) → List ℕ → List ℕ → List ℕ → ℕ
needed later left used values = count_ahead later (unused used left) used (λ u. weight_needed (values ++ u))

-- `new` is `old` plus these lists, without those that are degenerate
pub record AddsLists (later : List (List ℕ)) (left used values : List ℕ) (old new : List (List ℕ × ℤ)) : Type 0 where
  pub at : (phi : List ℕ → ℤ) → value_at phi new ≡ value_at phi old +ℤ ahead later left used values (normalized phi)
  pub within : weight_of new ≤ weight_of old + needed later left used values

-- the number of entries of all rows
abbrev pub entry_count : List (List ℕ) → ℕ
entry_count [] = 0
entry_count (w ∷ ws) = length w + entry_count ws
