-- What reading a source to its end, and writing a whole text, leave.
use Rattle.std.specs.Prelude.{◌≡◌, ℕ, ◌+◌, ◌≤◌, List, [], ◌++◌, length, Result, Ok, Err, if◌then◌else◌, nat_lt}
use Rattle.std.specs.declared.option.Option.{Option}
use Rattle.std.specs.Io.KnownBytes.{Consumes, Appends, IsAtEnd}
use Rattle.comch_io.specs.Causes.{Rose, counted}
use Rattle.comch_io.specs.declared.read_end.ReadEnd.{ReadEnd}
use Rattle.comch_io.specs.declared.read_end.ReadEnd.TheVariants.{Fault, TooLong, OutOfMemory}

-- the answer at these bytes, where no read fails and memory is there
abbrev pub read_answer : ℕ → List ℕ → Result (List ℕ) ReadEnd
read_answer limit xs = if nat_lt limit (length xs) then Err TooLong else Ok xs

-- The first answer is the second, or a fault, or want of memory.
abbrev pub ReadsAs : Result (List ℕ) ReadEnd → Result (List ℕ) ReadEnd → Type 0
ReadsAs (Ok bytes) answer = answer ≡ Ok bytes
ReadsAs (Err TooLong) answer = answer ≡ Err TooLong
ReadsAs (Err Fault) answer = Unit {0}
ReadsAs (Err OutOfMemory) answer = Unit {0}

-- Bytes that a source gave between two moments: what it tells to be left lost them at its front, and its count of bytes
-- goes on by as many.
abbrev pub Gave : Option (List ℕ) → Option (List ℕ) → ℕ → ℕ → List ℕ → Type 0
Gave old new before now bytes = Consumes old new bytes × (now ≡ counted before (length bytes))

-- it gave at most n bytes
abbrev pub GaveAtMost : ℕ → Option (List ℕ) → Option (List ℕ) → ℕ → ℕ → Type 0
GaveAtMost n old new before now = (taken : List ℕ) × (length taken ≤ n) × Gave old new before now taken

-- What a source gave, for each answer of a read to the end. A read that answers that the source has too much took one byte
-- more than the limit.
abbrev pub ReadGave : ℕ → Option (List ℕ) → Option (List ℕ) → ℕ → ℕ → Result (List ℕ) ReadEnd → Type 0
ReadGave limit old new before now (Ok bytes) = (length bytes ≤ limit) × Gave old new before now bytes × IsAtEnd new
ReadGave limit old new before now (Err TooLong) = (taken : List ℕ) × (length taken ≡ limit + 1) × Gave old new before now taken
ReadGave limit old new before now (Err Fault) = GaveAtMost limit old new before now
ReadGave limit old new before now (Err OutOfMemory) = GaveAtMost (limit + 1) old new before now

-- A read answers a fault only where the count of faults rose, and every other answer leaves the count.
abbrev pub ReadCause : {X : Type 0} → ℕ → ℕ → Result X ReadEnd → Type 0
ReadCause before now (Err Fault) = (before ≤ now) × Rose before now
ReadCause before now _ = now ≡ before

-- known bytes grow by a prefix of the text
abbrev pub AppendsPrefix : Option (List ℕ) → Option (List ℕ) → List ℕ → Type 0
AppendsPrefix old new text = (front : List ℕ) × (rest : List ℕ) × (text ≡ front ++ rest) × Appends old new front

-- One read puts what it was given at the end of `all`: at most one byte more than `most`, and nothing only at the end.
abbrev pub PieceGave : ℕ → Option (List ℕ) → Option (List ℕ) → ℕ → ℕ → List ℕ → List ℕ → Result ℕ ReadEnd → Type 0
PieceGave most old new before now all more (Ok n) = (taken : List ℕ) × (length taken ≡ n) × (n ≤ most + 1)
    × (more ≡ all ++ taken) × Gave old new before now taken × (n ≡ 0 → IsAtEnd new)
PieceGave most old new before now all more (Err TooLong) = ⊥
PieceGave most old new before now all more (Err Fault) = Gave old new before now []
PieceGave most old new before now all more (Err OutOfMemory) = GaveAtMost (most + 1) old new before now
