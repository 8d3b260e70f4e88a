-- What a contract sees of a device in memory, and what a call leaves of it.
use Rattle.std.specs.Prelude.{ℕ, ◌+◌, ◌-◌, ◌^◌, ◌≤◌, Bool, ◌&&◌, ◌||◌, ◌==◌, min, List, ◌++◌, length, take, drop, if◌then◌else◌, nat_lt}
use Rattle.std.specs.List.{list_any}

-- a source in memory: the bytes that are left, how many were given, how many a call gives at most, the calls that fail,
-- the calls so far and those that failed
pub record SourceState : Type 0 where
  pub left : List ℕ
  pub given : ℕ
  pub step : ℕ
  pub failing : List ℕ
  pub calls : ℕ
  pub faults : ℕ

-- a source in memory that never fails
pub record SureState : Type 0 where
  pub left : List ℕ
  pub given : ℕ

-- a sink in memory: what was written, how much there is room for, how much a call takes at most, and calls as in a source
pub record SinkState : Type 0 where
  pub written : List ℕ
  pub room : ℕ
  pub step : ℕ
  pub failing : List ℕ
  pub calls : ℕ
  pub faults : ℕ

-- the next number of a counter, which stays at its last value
abbrev pub next_count : ℕ → ℕ
next_count n = min (n + 1) (2 ^ 64 - 1)

-- the call of this number is one of those that fail
abbrev pub is_listed : List ℕ → ℕ → Bool
is_listed failing call = list_any (λ n. n == call) failing

-- how much a read of at most n bytes from a source in memory gives
abbrev pub given_count : ℕ → SourceState → ℕ
given_count n s = min (min n s.step) (length s.left)

-- a read of at most n bytes from a source in memory leaves this
abbrev pub after_read : ℕ → SourceState → SourceState
after_read n s = if is_listed s.failing s.calls
    then record s { calls = next_count s.calls; faults = next_count s.faults }
    else record s { left = drop (given_count n s) s.left; given = s.given + given_count n s; calls = next_count s.calls }

-- a write to a sink in memory is refused: by its number, or because a piece that is not empty finds no room
abbrev pub is_refused : List ℕ → SinkState → Bool
is_refused piece s = is_listed s.failing s.calls || (nat_lt 0 (length piece) && (s.room == length s.written))

-- how much of a piece is taken
abbrev pub taken_count : List ℕ → SinkState → ℕ
taken_count piece s = min (min (length piece) s.step) (s.room - length s.written)

-- a write to a sink in memory leaves this
abbrev pub after_write : List ℕ → SinkState → SinkState
after_write piece s = if is_refused piece s
    then record s { calls = next_count s.calls; faults = next_count s.faults }
    else record s { written = s.written ++ take (taken_count piece s) piece; calls = next_count s.calls }

-- a sink in memory never needs more room than it took, and each call takes something
pub record FitsItsRoom (len room capacity step : ℕ) : Type 0 where
  pub moves : 1 ≤ step
  pub within : len ≤ room
  pub reserved : room ≤ capacity
