-- The line of each refusal, and of a no.
use Rattle.std.specs.{Prelude.{ℕ, List, [], ◌∷◌, ◌++◌, codes}, Fmt.decimal}
use Rattle.complex_file.specs.Names.{kind_number}
use Rattle.comch_app.specs.declared.status.{Status.Status, Status.TheVariants.{Done, No, BadWords, InputRefused, TooManyTerms, OutOfMemory, ReadFault, WriteFault}}

-- a line with its byte 10
abbrev pub ended : List ℕ → List ℕ
ended text = text ++ 10 ∷ []

-- nothing for the statuses that have another text
abbrev pub refusal : Status → List ℕ
refusal (No condition line) = ended (codes "no " ++ decimal condition ++ codes " line " ++ decimal line)
refusal BadWords = ended (codes "refused words")
refusal (InputRefused kind line) = ended (codes "refused input " ++ decimal (kind_number kind) ++ codes " line " ++ decimal line)
refusal (TooManyTerms count limit) = ended (codes "refused terms " ++ decimal count ++ codes " limit " ++ decimal limit)
refusal OutOfMemory = ended (codes "refused memory")
refusal ReadFault = ended (codes "refused read")
refusal WriteFault = []
refusal Done = []
