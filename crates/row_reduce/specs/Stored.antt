-- Stored rows: what a walk keeps of the rows that did not go to zero.
use Rattle.std.specs.Prelude.{◌≡◌, ◌≢◌, ℕ, ◌+◌, ◌*◌, ◌%◌, ◌<◌, ◌≤◌, List, Option, None, Some, map, length, slice_index, slice_index_or}
use Rattle.linear_law.specs.Names.{Congruent, sum_over, Among, StartsAt}
use Rattle.sparse_rows.specs.Rows.{IsBelow, value_in}
use Rattle.row_reduce.specs.declared.Stored.{Stored}

-- all numbers are zero
pub record IsClear (p : ℕ) (sum : List ℕ) : Type 0 where
  pub zero : (y : ℕ) → Congruent p (slice_index sum y) 0

-- a row with its lead, and the factor that takes the value there to -1
pub record StoredFits (p width : ℕ) (i : Stored p) : Type 0 where
  pub inside : i.place < width
  pub entries : IsBelow width i.row
  pub factor : Congruent p (value_in i.row i.place * i.factor + 1) 0
  pub leads : StartsAt p i.place (value_in i.row)

abbrev pub stored_place : {p : ℕ} → Stored p → ℕ
stored_place i = i.place

-- the pivots are the leads of the rows: at each stands the number of the row that has it
pub record Owns {p : ℕ} (width : ℕ) (images : List (Stored p)) (pivots : List (Option ℕ)) : Type 0 where
  pub full : length pivots ≡ width
  pub some : (y k : ℕ) → slice_index_or pivots y None ≡ Some k → (k < length images) × ((d : Stored p) → (slice_index_or images k d).place ≡ y)
  pub none : (y : ℕ) → y < width → slice_index_or pivots y None ≡ None → Among y (map stored_place images) → ⊥

-- what the rows that a history names add
abbrev pub added_row : {p : ℕ} → List (Stored p) → Stored p → List (ℕ × ℕ) → ℕ → ℕ
added_row images d history y = sum_over (λ h. h.1 * value_in (slice_index_or images h.0 d).row y) history

-- the sum is the row, and starts at `start`
pub record IsLoaded (p : ℕ) (row : List (ℕ × ℕ)) (sum : List ℕ) (start : ℕ) : Type 0 where
  pub inside : start ≤ length sum
  pub before : StartsAt p start (slice_index sum)
  pub is_row : (y : ℕ) → Congruent p (slice_index sum y) (value_in row y)

-- new is old with multiples of the rows added, down to a lead t that no row has; t is width where nothing is left
pub record IsReducedTo (p width : ℕ) (images : List (Stored p)) (pivots : List (Option ℕ)) (old new : List ℕ) (t : ℕ) (history : List (ℕ × ℕ)) : Type 0 where
  pub inside : t ≤ width
  pub before : StartsAt p t (slice_index new)
  pub stop : t < width → (slice_index new t % p ≢ 0) × (slice_index_or pivots t None ≡ None)
  pub history_fits : IsBelow (length images) history
  pub row : (d : Stored p) (y : ℕ) → Congruent p (slice_index new y) (slice_index old y + added_row images d history y)

-- the entries are what was in the sum, which is now clear
pub record IsRest (p : ℕ) (old new : List ℕ) (rest : List (ℕ × ℕ)) : Type 0 where
  pub clear : IsClear p new
  pub fits : IsBelow (length old) rest
  pub row : (y : ℕ) → Congruent p (value_in rest y) (slice_index old y)

-- what is left in the sum, as a row to store, with the lead t
pub record IsStoredFrom (p : ℕ) (old new : List ℕ) (t source : ℕ) (history : List (ℕ × ℕ)) (i : Stored p) : Type 0 where
  pub clear : IsClear p new
  pub fits : StoredFits p (length old) i
  pub place : i.place ≡ t
  pub source_is : i.source ≡ source
  pub history_is : i.history ≡ history
  pub row : (y : ℕ) → Congruent p (value_in i.row y) (slice_index old y)
