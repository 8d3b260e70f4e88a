-- The reduced echelon list of what given rows span, with a combination of given rows for each of its rows.
use Rattle.std.specs.Prelude.{◌≡◌, ℕ, ◌+◌, ◌*◌, ◌<◌, ◌≤◌, Bool, List, Option, map, length}
use Rattle.linear_law.specs.Names.{Congruent, negated, sum_over, Among, Each, IsAscending, AgreesOn, IsReduced, KernelVector, Skips, StartsAt}
use Rattle.sparse_rows.specs.Rows.{IsRow, value_in}
use Rattle.row_reduce.specs.{declared.Stored.Stored, declared.EchelonRow.EchelonRow, Walk.{IsSolved, combined}, Pivots.{IsLeadIn, IsMarkedIn}, Expansion.IsVectorOf, Triangular.IsSolvedStored}

abbrev pub pivot_of : {p : ℕ} → EchelonRow p → ℕ
pivot_of e = e.pivot

abbrev pub row_of : {p : ℕ} → EchelonRow p → ℕ → ℕ
row_of e = value_in e.row

abbrev pub combination_of : {p : ℕ} → EchelonRow p → ℕ → ℕ
combination_of e = value_in e.combination

-- `base`, with minus the value of `given` at each pivot times that part of the echelon row
abbrev pub cleared : {p : ℕ} → (EchelonRow p → ℕ → ℕ) → List (EchelonRow p) → (ℕ → ℕ) → (ℕ → ℕ) → ℕ → ℕ
cleared {p} part done given base y = base y + sum_over (λ (d : EchelonRow p). negated p (given d.pivot) * part d y) done

-- a stored row, and the vector behind it, cleared at the pivots of the rows that are done, with 1 at its lead
pub record IsMadeFrom (p : ℕ) (images : List (Stored p)) (s : Stored p) (done : List (EchelonRow p)) (e : EchelonRow p) : Type 0 where
  pub pivot : e.pivot ≡ s.place
  pub rows_are : IsRow p e.row × IsRow p e.combination
  pub start : List (ℕ × ℕ)
  pub vector : IsVectorOf p images s.source s.history start
  pub given : ℕ → ℕ
  pub given_is : (y : ℕ) → Congruent p (given y) (value_in s.row y)
  pub row : (y : ℕ) → Congruent p (value_in e.row y) (negated p s.factor * cleared row_of done given given y)
  pub combination : (x : ℕ) → Congruent p (value_in e.combination x) (negated p s.factor * cleared combination_of done given (value_in start) x)

-- A row of the span that starts at its pivot, and a combination of the given rows that gives it. The
-- combination is 0 at the places of the kernel and at the skipped ones.
pub record IsEchelonRow (p width : ℕ) (rows : List (List (ℕ × ℕ))) (skip : List Bool) (kernel : List KernelVector) (e : EchelonRow p) : Type 0 where
  pub inside : e.pivot < width
  pub rows_are : IsRow p e.row × IsRow p e.combination
  pub starts : StartsAt p e.pivot (value_in e.row)
  pub wide : (y : ℕ) → width ≤ y → Congruent p (value_in e.row y) 0
  pub from : AgreesOn p (λ y. y < width) (combined rows (value_in e.combination)) (value_in e.row)
  pub apart : Each (λ k. Congruent p (value_in e.combination k.place) 0) kernel
  pub skips : Skips p (IsMarkedIn skip) (value_in e.combination)
  pub short : (x : ℕ) → length rows ≤ x → Congruent p (value_in e.combination x) 0

-- The echelon rows whose pivots are the leads from `low` on: each is 1 at its pivot and 0 at the pivots of the others.
pub record AreEchelon (p width : ℕ) (rows : List (List (ℕ × ℕ))) (skip : List Bool) (kernel : List KernelVector) (pivots : List (Option ℕ)) (low : ℕ) (echelon : List (EchelonRow p)) : Type 0 where
  pub each : Each (IsEchelonRow p width rows skip kernel) echelon
  pub reduced : IsReduced p pivot_of row_of echelon
  pub ascends : IsAscending (map pivot_of echelon)
  pub above : Each (λ (e : EchelonRow p). low ≤ e.pivot) echelon
  pub owned : Each (λ (e : EchelonRow p). IsLeadIn pivots e.pivot) echelon
  pub whole : (y : ℕ) → low ≤ y → y < width → IsLeadIn pivots y → Among y (map pivot_of echelon)

-- the kernel, the leads and the echelon of the rows
pub record IsSolvedWhole (p width : ℕ) (rows : List (List (ℕ × ℕ))) (skip : List Bool) (solutions : List (List (ℕ × ℕ))) (pivots : List (Option ℕ)) (echelon : List (EchelonRow p)) : Type 0 where
  pub solved : IsSolved p width rows skip solutions pivots
  pub reduced : AreEchelon p width rows skip solved.kernel pivots 0 echelon

-- whatever rows were walked to store these, the list is the echelon of their span
pub record IsEchelonFrom (p : ℕ) (stored : List (Stored p)) (pivots : List (Option ℕ)) (echelon : List (EchelonRow p)) : Type 0 where
  pub from : (width : ℕ) (rows : List (List (ℕ × ℕ))) (skip : List Bool) (solutions : List (List (ℕ × ℕ))) → IsSolvedStored p width rows skip solutions pivots stored → IsSolvedWhole p width rows skip solutions pivots echelon
