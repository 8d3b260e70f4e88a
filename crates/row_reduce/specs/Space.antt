-- Spaces: given rows and the reduced echelon list of their span.
use Rattle.std.specs.Prelude.{◌≡◌, ℕ, ◌+◌, ◌<◌, ◌↔◌, suc, List, [], ◌∷◌, map, length}
use Rattle.linear_law.specs.Names.{Congruent, Among, Each, IsAscending, unit_vector, IsImage, IsCanonical, IsPivot}
use Rattle.sparse_rows.specs.Rows.{IsBelow, IsFirst, IsRow, value_in}
use Rattle.row_reduce.specs.{declared.EchelonRow.EchelonRow, Walk.combined, Echelon.{combination_of, pivot_of, row_of}, Elimination.Everywhere}

-- what a space is seen as
pub record Spanned (p : ℕ) : Type 0 where
  pub given : List (List (ℕ × ℕ))
  pub echelon : List (EchelonRow p)

-- w is a combination of the rows
abbrev pub IsSpannedBy : ℕ → List (List (ℕ × ℕ)) → (ℕ → ℕ) → Type 0
IsSpannedBy p given w = IsImage p Everywhere (combined given) w

-- The one reduced echelon list of the span: its pivots are the least places of the nonzero members, in
-- order, each row is the canonical member of its pivot, and its combination, which names given rows alone, gives it.
pub record IsEchelonOf (p : ℕ) (given : List (List (ℕ × ℕ))) (echelon : List (EchelonRow p)) : Type 0 where
  pub rows_are : Each (λ (e : EchelonRow p). IsRow p e.row × IsRow p e.combination) echelon
  pub inside : Each (λ (e : EchelonRow p). IsBelow (length given) e.combination) echelon
  pub ascends : IsAscending (map pivot_of echelon)
  pub pivots : (t : ℕ) → IsPivot p Everywhere (λ a b. a < b) (IsSpannedBy p given) t ↔ Among t (map pivot_of echelon)
  pub canonical : Each (λ (e : EchelonRow p). IsCanonical p Everywhere (λ a b. a < b) (IsSpannedBy p given) e.pivot (row_of e)) echelon
  pub from : Each (λ (e : EchelonRow p). (y : ℕ) → Congruent p (combined given (combination_of e) y) (row_of e y)) echelon

-- `row` is the sum of `rest`, which is 0 at each pivot, and a combination, which names given rows alone
pub record IsRemainder (p : ℕ) (given : List (List (ℕ × ℕ))) (echelon : List (EchelonRow p)) (row rest combination : List (ℕ × ℕ)) : Type 0 where
  pub rows_are : IsRow p rest × IsRow p combination
  pub inside : IsBelow (length given) combination
  pub zero : Each (λ (e : EchelonRow p). Congruent p (value_in rest e.pivot) 0) echelon
  pub sum : (y : ℕ) → Congruent p (value_in row y) (value_in rest y + combined given (value_in combination) y)

-- an echelon row that is the given row `at` itself
pub record IsOwnRow (p at : ℕ) (row : List (ℕ × ℕ)) (e : EchelonRow p) : Type 0 where
  pub same : e.row ≡ row
  pub rows_are : IsRow p e.row × IsRow p e.combination
  pub combination : (x : ℕ) → Congruent p (value_in e.combination x) (unit_vector at x)
  pub pivot : (k : ℕ) → IsFirst row k → e.pivot ≡ k

-- each echelon row is the given row of its number, from the k-th on
abbrev pub AreOwnFrom : (p k : ℕ) → List (List (ℕ × ℕ)) → List (EchelonRow p) → Type 0
AreOwnFrom p k [] [] = Unit {0}
AreOwnFrom p k [] (e ∷ es) = ⊥
AreOwnFrom p k (r ∷ rs) [] = ⊥
AreOwnFrom p k (r ∷ rs) (e ∷ es) = IsOwnRow p k r e × AreOwnFrom p (suc k) rs es

-- The space of all combinations of the rows that are zero: its given rows, which name rows alone, are its
-- echelon rows, in order.
pub record IsKernelOf (p : ℕ) (rows given : List (List (ℕ × ℕ))) (echelon : List (EchelonRow p)) : Type 0 where
  pub is_echelon : IsEchelonOf p given echelon
  pub own : AreOwnFrom p 0 given echelon
  pub inside : Each (IsBelow (length rows)) given
  pub relations : Each (λ r. (y : ℕ) → Congruent p (combined rows (value_in r) y) 0) given
  pub whole : (v : ℕ → ℕ) → ((y : ℕ) → Congruent p (combined rows v y) 0) → IsImage p (λ x. x < length rows) (combined given) v
