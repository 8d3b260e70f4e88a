-- How the counts of a device go on.
use Rattle.std.specs.Prelude.{◌≡◌, ℕ, ◌+◌, ◌-◌, ◌^◌, ◌≤◌, min, max, Result, MatchResult, OnOk, OnErr}

-- A counter that goes on by n, up to its last value.
abbrev pub counted : ℕ → ℕ → ℕ
counted before n = min (before + n) (max before (2 ^ 64 - 1))

-- A count of faults rose between two moments, or stands at the last value of a counter.
abbrev pub Rose : ℕ → ℕ → Type 0
Rose before now = min (before + 1) (2 ^ 64 - 1) ≤ now

-- A call fails only where the count of faults rose, and else leaves it as it was.
pub record HasCause {T E : Type 0} (before now : ℕ) (result : Result T E) : Type 0 where
  pub later : before ≤ now
  pub failed : OnErr result (Rose before now)
  pub kept : OnOk result (now ≡ before)

-- A call that gives a number of bytes counts them, and one that fails counts none.
abbrev pub CountsGiven : {E : Type 0} → ℕ → ℕ → Result ℕ E → Type 0
CountsGiven before now result = MatchResult result (λ n. now ≡ counted before n) (λ _. now ≡ before)
