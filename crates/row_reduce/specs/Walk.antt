-- A walk over given rows, from the last to the first, and the vectors behind what it found. A vector
-- gives a coefficient to each given row.
use Rattle.std.specs.{Prelude.{◌≡◌, ℕ, ◌+◌, ◌*◌, ◌%◌, ◌^◌, ◌<◌, ◌≤◌, ◌≢◌, ◌↔◌, List, [], ◌∷◌, Bool, Option, map, length, slice_index_or}, List.AllZip}
use Rattle.linear_law.specs.Names.{Congruent, sum_over, Among, Each, row_combination, unit_vector, ImageVector, IsInKernel, KernelVector, StartsAt, Walked, image_place}
use Rattle.sparse_rows.specs.Rows.{IsBelow, IsRow, value_in}
use Rattle.row_reduce.specs.{declared.Class.Class, declared.Stored.Stored, declared.walking.Walk.Walk, Pivots.{IsLeadIn, IsMarkedIn}, Stored.{Owns, StoredFits}}

-- the sum of the rows, each times its coefficient in v
abbrev pub combined : List (List (ℕ × ℕ)) → (ℕ → ℕ) → ℕ → ℕ
combined rows v y = row_combination (map value_in rows) v y

-- the vectors that a history names, each times its factor
abbrev pub added_from : List (ℕ → ℕ) → (ℕ → ℕ) → List (ℕ × ℕ) → ℕ → ℕ
added_from sources d history x = sum_over (λ h. h.1 * slice_index_or sources h.0 d x) history

-- how a vector arose: from the unit vector of one given row and the vectors that the history names, all below k
pub record IsFrom (p k : ℕ) (sources : List (ℕ → ℕ)) (source : ℕ) (history : List (ℕ × ℕ)) (from : ℕ → ℕ) : Type 0 where
  pub fits : IsBelow k history
  pub sum : (d : ℕ → ℕ) (x : ℕ) → Congruent p (from x) (unit_vector source x + added_from sources d history x)

abbrev pub image_of : {p : ℕ} → Stored p → (ℕ → ℕ) → ImageVector ℕ
image_of s from = record { place = s.place; from = from; row = value_in s.row }

-- stored rows with the vectors behind them, the newest first
abbrev pub images_of : {p : ℕ} → List (Stored p) → List (ℕ → ℕ) → List (ImageVector ℕ) → List (ImageVector ℕ)
images_of [] fs done = done
images_of (s ∷ ss) [] done = done
images_of (s ∷ ss) (f ∷ fs) done = images_of ss fs (image_of s f ∷ done)

-- classes with the vectors behind them, the newest first
abbrev pub kernel_of : {p : ℕ} → List (Class p) → List (ℕ → ℕ) → List KernelVector → List KernelVector
kernel_of [] vs done = done
kernel_of (c ∷ cs) [] done = done
kernel_of (c ∷ cs) (v ∷ vs) done = kernel_of cs vs (record { place = c.place; vector = v } ∷ done)

-- all stored rows come from given rows below count
abbrev pub AreNumbered : {p : ℕ} → ℕ → List (Stored p) → Type 0
AreNumbered count images = Each (λ s. s.source < count) images

-- the combinations behind the stored rows
pub record AreSources (p : ℕ) (images : List (Stored p)) (sources : List (ℕ → ℕ)) : Type 0 where
  pub from : (k : ℕ) (s : Stored p) (f : ℕ → ℕ) → k < length images → IsFrom p k sources (slice_index_or images k s).source (slice_index_or images k s).history (slice_index_or sources k f)

-- The rows from `low` on are walked. `sources` are the vectors behind the stored rows, `vectors` those behind the classes.
pub record Reached (p width : ℕ) (rows : List (List (ℕ × ℕ))) (skipped : ℕ → Type 0) (low : ℕ) (kernel : List (Class p)) (images : List (Stored p)) (pivots : List (Option ℕ)) : Type 0 where
  pub few : low + length images ≤ length rows
  pub numbered : AreNumbered (length rows) images
  pub fits : Each (StoredFits p width) images
  pub owns : Owns width images pivots
  pub sources : List (ℕ → ℕ)
  pub sources_length : length sources ≡ length images
  pub sources_are : AreSources p images sources
  pub vectors : List (ℕ → ℕ)
  pub vectors_are : AllZip (λ (c : Class p) v. IsFrom p (length images) sources c.place c.history v) kernel vectors
  pub walked : Walked p (length rows) width (combined rows) skipped low (kernel_of kernel vectors []) (images_of images sources [])

-- a vector that goes to zero and starts at x
pub record IsSkippable (p width : ℕ) (rows : List (List (ℕ × ℕ))) (x : ℕ) : Type 0 where
  pub vector : ℕ → ℕ
  pub starts : StartsAt p x vector
  pub nonzero : vector x % p ≢ 0
  pub goes : IsInKernel p (λ y. y < width) (combined rows) vector

-- Each row that is to be skipped is the first one of some combination that is zero.
pub record SkipsFit (p width : ℕ) (rows : List (List (ℕ × ℕ))) (skip : List Bool) : Type 0 where
  pub full : length skip ≡ length rows
  pub each : (x : ℕ) → IsMarkedIn skip x → IsSkippable p width rows x

-- rows of this width, all in 32 bits
pub record AreRows (width : ℕ) (rows : List (List (ℕ × ℕ))) : Type 0 where
  pub few : length rows < 2 ^ 32
  pub narrow : width ≤ 2 ^ 32
  pub within : Each (IsBelow width) rows

-- what a walk knows when the rows from `low` on are walked
pub record IsReached (p width : ℕ) (rows : List (List (ℕ × ℕ))) (low : ℕ) (w : Walk p) : Type 0 where
  pub skips : SkipsFit p width rows w.skip.items
  pub reached : Reached p width rows (IsMarkedIn w.skip.items) low w.classes.items w.stored.items w.pivots

-- the row has the values of the kernel vector
pub record IsVectorRow (p count : ℕ) (k : KernelVector) (r : List (ℕ × ℕ)) : Type 0 where
  pub is_row : IsRow p r
  pub below : IsBelow count r
  pub same : (x : ℕ) → Congruent p (value_in r x) (k.vector x)

-- The combinations of the rows that are zero, as rows, and a table of the leads of what the rows span:
-- its pivots are the leads. The kernel leaves out the skipped places.
pub record IsSolved (p width : ℕ) (rows : List (List (ℕ × ℕ))) (skip : List Bool) (solutions : List (List (ℕ × ℕ))) (pivots : List (Option ℕ)) : Type 0 where
  pub kernel : List KernelVector
  pub images : List (ImageVector ℕ)
  pub walked : Walked p (length rows) width (combined rows) (IsMarkedIn skip) 0 kernel images
  pub vectors : AllZip (IsVectorRow p (length rows)) kernel solutions
  pub full : length pivots ≡ width
  pub owned : (y : ℕ) → y < width → IsLeadIn pivots y ↔ Among y (map image_place images)
