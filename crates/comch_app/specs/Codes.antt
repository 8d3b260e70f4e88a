-- The exit codes.
use Rattle.std.specs.Prelude.{ℕ}
use Rattle.comch_app.specs.declared.status.{Status.Status, Status.TheVariants.{Done, No, BadWords, InputRefused, TooManyTerms, OutOfMemory, ReadFault, WriteFault}}

abbrev pub code_of : Status → ℕ
code_of Done = 0
code_of (No condition line) = 1
code_of BadWords = 2
code_of (InputRefused kind line) = 3
code_of (TooManyTerms count limit) = 4
code_of OutOfMemory = 5
code_of ReadFault = 6
code_of WriteFault = 7
