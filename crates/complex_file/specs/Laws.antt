-- The laws of the input.
use Rattle.std.specs.{Prelude.{ℕ, ◌≡◌, ◌⊎◌, true, List, Ok, Err}, Result.result_err}
use Rattle.complex_file.specs.{Text.lines, Jobs.is_job, Input.{Fault, Place, Spelled, after_line, at_start, input_of, lines_spell}, FaultTable.{IsLong, IsOnLine, IsUnfinished, fault_at}, Written.written}

-- What bytes spell is a job.
abbrev pub SpelledJobLaw : Type 0
SpelledJobLaw = (text : List ℕ) (s : Spelled) → input_of text ≡ Ok s → is_job s.prime s.complexes s.maps ≡ true

-- A job that is written as lines is what they spell.
abbrev pub WrittenJobLaw : Type 0
WrittenJobLaw = (s : Spelled) → is_job s.prime s.complexes s.maps ≡ true → lines_spell (written s) ≡ Ok s

-- The fault of a line is the first kind of the table that comes on it. The fault of a text is that of its first line with a
-- fault; or the text is too long, or ends where an input may not end and no line has a fault.
pub record FirstFaultLaw : Type 0 where
  pub line : (place : Place) (line : List ℕ) → result_err (after_line place line) ≡ fault_at place line
  pub text : (text : List ℕ) (f : Fault) → input_of text ≡ Err f → IsLong text f ⊎ (IsOnLine 1 at_start (lines text) f ⊎ IsUnfinished text f)
