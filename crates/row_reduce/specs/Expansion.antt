-- The vector behind a class, from its history.
use Rattle.std.specs.Prelude.{ℕ, ◌+◌, ◌<◌, List, length, slice_index, slice_index_or}
use Rattle.linear_law.specs.Names.{Congruent, paired}
use Rattle.sparse_rows.specs.Rows.{IsBelow, IsRow, value_in}
use Rattle.row_reduce.specs.{declared.Class.Class, declared.Stored.Stored, Walk.{AreNumbered, AreSources, IsFrom}}

-- the first k vectors, each by its weight
abbrev pub weighted : ℕ → List ℕ → List (ℕ → ℕ) → (ℕ → ℕ) → ℕ → ℕ
weighted k ws fs d x = paired k (slice_index ws) (λ j. slice_index_or fs j d x)

-- while weights move to older rows: out and the weights below k make up the vector
pub record Expanding (p : ℕ) (images : List (Stored p)) (place : ℕ) (history : List (ℕ × ℕ)) (weights : List ℕ) (out : List (ℕ × ℕ)) (k : ℕ) : Type 0 where
  pub sum : (sources : List (ℕ → ℕ)) (v d : ℕ → ℕ) → AreSources p images sources → IsFrom p (length images) sources place history v
      → (x : ℕ) → Congruent p (v x) (value_in out x + weighted k weights sources d x)

-- `out` is the vector behind what the given row at `place` and the history have become
pub record IsExpanded (p : ℕ) (images : List (Stored p)) (place : ℕ) (history out : List (ℕ × ℕ)) : Type 0 where
  pub is : (sources : List (ℕ → ℕ)) (v : ℕ → ℕ) → AreSources p images sources → IsFrom p (length images) sources place history v
      → (x : ℕ) → Congruent p (v x) (value_in out x)

-- the history names rows below k
abbrev pub HistoryFits : (p k : ℕ) → Class p → Type 0
HistoryFits p k class = IsBelow k class.history

-- `row` is the vector behind what the given row at `place` and the history have become
pub record IsVectorOf (p : ℕ) (images : List (Stored p)) (place : ℕ) (history : List (ℕ × ℕ)) (row : List (ℕ × ℕ)) : Type 0 where
  pub expanded : IsExpanded p images place history row
  pub is_row : IsRow p row
  pub below : (count : ℕ) → AreNumbered count images → place < count → IsBelow count row

abbrev pub IsVectorOfClass : (p : ℕ) → List (Stored p) → Class p → List (ℕ × ℕ) → Type 0
IsVectorOfClass p images class row = IsVectorOf p images class.place class.history row

-- each history names older rows
pub record AreOlder (p : ℕ) (images : List (Stored p)) : Type 0 where
  pub each : (k : ℕ) (s : Stored p) → k < length images → IsBelow k (slice_index_or images k s).history
