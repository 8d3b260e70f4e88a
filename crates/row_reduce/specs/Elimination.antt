-- Elimination of given rows from the last to the first, with a reduced echelon list all along.
use Rattle.std.specs.{Prelude.{◌≡◌, ℕ, ◌+◌, ◌*◌, ◌≤◌, suc, List, [], ◌∷◌, map, length, reverse}, List.AllZip}
use Rattle.linear_law.specs.Names.{Congruent, negated, Among, Each, IsAscending, AgreesOn, IsReduced, ImageVector, KernelVector, Skips, StartsAt, Walked, image_place}
use Rattle.sparse_rows.specs.Rows.{IsRow, value_in}
use Rattle.row_reduce.specs.{declared.EchelonRow.EchelonRow, Walk.{IsVectorRow, combined}, Echelon.{combination_of, pivot_of, row_of}}

-- all places count
abbrev pub Everywhere : ℕ → Type 0
Everywhere y = Unit {0}

-- `e` is the multiple of a row that is 1 at the pivot, and that multiple of its combination
pub record IsMonic (p pivot : ℕ) (row combination : List (ℕ × ℕ)) (e : EchelonRow p) : Type 0 where
  pub pivot_is : e.pivot ≡ pivot
  pub rows_are : IsRow p e.row × IsRow p e.combination
  pub factor : ℕ
  pub one : Congruent p (row_of e pivot) 1
  pub row_is : (y : ℕ) → Congruent p (row_of e y) (factor * value_in row y)
  pub combination_is : (x : ℕ) → Congruent p (combination_of e x) (factor * value_in combination x)

-- `e` is an echelon row, less a multiple of the newest one, so that it is 0 at its pivot
pub record IsClearedBy (p : ℕ) (newest old e : EchelonRow p) : Type 0 where
  pub pivot : e.pivot ≡ old.pivot
  pub rows_are : IsRow p old.row → IsRow p old.combination → IsRow p e.row × IsRow p e.combination
  pub row : (y : ℕ) → Congruent p (row_of e y) (row_of old y + negated p (row_of old newest.pivot) * row_of newest y)
  pub combination : (x : ℕ) → Congruent p (combination_of e x) (combination_of old x + negated p (row_of old newest.pivot) * combination_of newest x)

-- a bound for the places of the rows
abbrev pub end_of_row : List (ℕ × ℕ) → ℕ
end_of_row [] = 0
end_of_row (e ∷ es) = suc (e.0 + end_of_row es)

abbrev pub end_of : List (List (ℕ × ℕ)) → ℕ
end_of [] = 0
end_of (r ∷ rs) = end_of_row r + end_of rs

-- w is the combination v of the rows from `low` on, which is 0 at the skipped places and at those of the kernel
pub record Gives (p : ℕ) (rows : List (List (ℕ × ℕ))) (On : ℕ → Type 0) (low : ℕ) (skipped : ℕ → Type 0) (kernel : List KernelVector) (v w : ℕ → ℕ) : Type 0 where
  pub from : AgreesOn p On (combined rows v) w
  pub starts : StartsAt p low v
  pub skips : Skips p skipped v
  pub apart : Each (λ (k : KernelVector). Congruent p (v k.place) 0) kernel

pub record IsGiven (p : ℕ) (rows : List (List (ℕ × ℕ))) (low : ℕ) (kernel : List KernelVector) (e : EchelonRow p) : Type 0 where
  pub rows_are : IsRow p e.row × IsRow p e.combination
  pub starts : StartsAt p e.pivot (row_of e)
  pub gives : Gives p rows Everywhere low (λ x. length rows ≤ x) kernel (combination_of e) (row_of e)

-- The rows from `low` on are eliminated: the echelon list spans what they span, and the relations are the reduced list of their
-- combinations that are zero, the last first.
pub record IsEliminated (p : ℕ) (rows : List (List (ℕ × ℕ))) (low : ℕ) (echelon : List (EchelonRow p)) (relations : List (List (ℕ × ℕ))) : Type 0 where
  pub kernel : List KernelVector
  pub images : List (ImageVector ℕ)
  pub walked : Walked p (length rows) (end_of rows) (combined rows) (λ x. ⊥) low kernel images
  pub few : low + length relations ≤ length rows
  pub vectors : AllZip (IsVectorRow p (length rows)) kernel (reverse relations)
  pub listed : (t : ℕ) → Among t (map image_place images) → Among t (map pivot_of echelon)
  pub each : Each (IsGiven p rows low kernel) echelon
  pub reduced : IsReduced p pivot_of row_of echelon
  pub ascends : IsAscending (map pivot_of echelon)
