-- Tables of pivots, and marks.
use Rattle.std.specs.Prelude.{◌≢◌, ℕ, Bool, false, IsTrue, List, Option, None, slice_index_or}

-- some row has its lead at y
abbrev pub IsLeadIn : List (Option ℕ) → ℕ → Type 0
IsLeadIn pivots y = slice_index_or pivots y None ≢ None

-- the place x is marked
abbrev pub IsMarkedIn : List Bool → ℕ → Type 0
IsMarkedIn marks x = IsTrue (slice_index_or marks x false)
