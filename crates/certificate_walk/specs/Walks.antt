-- What a walk of lines says.
use Rattle.std.specs.Prelude.{◌≡◌, ℕ, ◌+◌, List, length, Ok, Err, Result}
use Rattle.linear_law.specs.Names.{Each}
use Rattle.certificate_law.specs.Names.{FailsAt, Stated}
use Rattle.certificate_walk.specs.declared.stop.{Stop.Stop, Stop.TheVariants.{Fails, OutOfMemory}}

-- The first of these lines that is not as asked has this number, where `before` lines stand before them.
pub record FailsBehind (P : Stated → Type 0) (before : ℕ) (lines : List Stated) (line : ℕ) : Type 0 where
  pub number : ℕ
  pub line_is : line ≡ before + number
  pub fails : FailsAt P lines number

-- The answer of a walk of these lines, where `before` lines stand before them: the number of the last where each is as
-- asked, else that of the first that is not.
abbrev pub IsWalk : (Stated → Type 0) → ℕ → List Stated → Result ℕ Stop → Type 0
IsWalk P before lines (Ok last) = (last ≡ before + length lines) × Each P lines
IsWalk P before lines (Err (Fails line)) = FailsBehind P before lines line
IsWalk P before lines (Err OutOfMemory) = Unit {0}
