-- A triangular list of rows of a span.
use Rattle.std.specs.Prelude.{◌≡◌, ℕ, Bool, List, Option, [], map, length}
use Rattle.linear_law.specs.Names.{Each, IsApart}
use Rattle.sparse_rows.specs.Rows.{value_in}
use Rattle.row_reduce.specs.{declared.Stored.Stored, Stored.{Owns, StoredFits, stored_place}, Expansion.AreOlder, Walk.{AreNumbered, AreSources, IsSolved, images_of}}

abbrev pub stored_row : {p : ℕ} → Stored p → ℕ → ℕ
stored_row s = value_in s.row

-- each row starts at a lead of its own, `pivots` names the row of each lead, and histories name older rows
pub record AreTriangular (p width : ℕ) (stored : List (Stored p)) (pivots : List (Option ℕ)) : Type 0 where
  pub fits : Each (StoredFits p width) stored
  pub owns : Owns width stored pivots
  pub apart : IsApart (map stored_place stored)
  pub older : AreOlder p stored

-- The kernel and the pivots of what the rows span, and triangular rows of the span, one for each pivot. `sources` are combinations of the
-- rows that give these, as the histories make them.
pub record IsSolvedStored (p width : ℕ) (rows : List (List (ℕ × ℕ))) (skip : List Bool) (solutions : List (List (ℕ × ℕ))) (pivots : List (Option ℕ)) (stored : List (Stored p)) : Type 0 where
  pub solved : IsSolved p width rows skip solutions pivots
  pub triangular : AreTriangular p width stored pivots
  pub numbered : AreNumbered (length rows) stored
  pub sources : List (ℕ → ℕ)
  pub sources_length : length sources ≡ length stored
  pub sources_are : AreSources p stored sources
  pub images_are : solved.images ≡ images_of stored sources []
