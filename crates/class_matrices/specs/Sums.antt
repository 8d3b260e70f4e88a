-- Sums of columns, each times its coefficient.
use Rattle.std.specs.Prelude.{◌≡◌, ℕ, ◌<◌, ◌==◌, List, [], ◌∷◌, cond, length, map}
use Rattle.signed_sum.specs.Names.{numbers_from}
use Rattle.linear_law.specs.Names.{Each, plus_scaled}

-- a list plus the columns, each times its coefficient, modulo p
abbrev pub sum_onto : ℕ → List ℕ → List (List ℕ) → List ℕ → List ℕ
sum_onto p sum [] cs = sum
sum_onto p sum (column ∷ columns) [] = sum
sum_onto p sum (column ∷ columns) (c ∷ cs) = plus_scaled p c column (sum_onto p sum columns cs)

-- each column has as many values as the list, which are residues modulo p
pub record Fits (p : ℕ) (columns : List (List ℕ)) (sum : List ℕ) : Type 0 where
  pub even : Each (λ column. length column ≡ length sum) columns
  pub small : Each (λ x. x < p) sum

-- the coordinates of one of h classes: 1 at the place k, and 0 elsewhere
abbrev pub unit_coordinates : ℕ → ℕ → List ℕ
unit_coordinates h k = map (λ i. cond (i == k) 1 0) (numbers_from 0 h)
