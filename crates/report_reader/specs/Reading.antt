-- What a text is read as from one of its lines on.
use Rattle.std.specs.{Prelude.{◌≡◌, ℕ, ◌+◌, ◌-◌, ◌<◌, ◌≤◌, ◌^◌, Bool, true, false, List, [], ◌∷◌, ◌++◌, length, Some, None, Ok, Err, OnOk, Result, if◌then◌else◌}, declared.option.Option.Option}
use Rattle.report.specs.declared.job.Report.{Report}
use Rattle.report_text_law.specs.{Names.{line_at, or_refused, read_from, IsRefused, Spells, pieces, ◌>>=◌, move, prime_of, is_line}, declared.state.State.State, declared.state.State.TheVariants.Finished, declared.line.Line.Line}
use Rattle.report_reader.specs.declared.refused.{ReadRefused.ReadRefused, ReadRefused.TheVariants.{ReportRefused, OutOfMemory}}

-- A line of a text: its number, what it says, or none where it is refused in every state, and the bytes behind it.
pub record Place : Type 0 where
  pub number : ℕ
  pub line : Option Line
  pub text : List ℕ

-- what the text is read as, where its line is taken so
abbrev pub reading : (Line → Option State) → Place → Result Report ℕ
reading taken at = or_refused at.number (at.line >>= taken) (λ s. read_from (at.number + 1) s (pieces at.text))

-- the number of the next line is below 2 ^ 64
abbrev pub HasRoom : Place → Type 0
HasRoom at = at.number + length at.text < 2 ^ 64 - 1

abbrev pub is_there : Option Line → ℕ
is_there (Some l) = 1
is_there None = 0

-- at most so many lines are still to be read
abbrev pub left : Place → ℕ
left at = length at.text + is_there at.line

abbrev pub if_line : ℕ → Line → Option Line
if_line prime l = if is_line prime l then Some l else None

-- the line that is spelled by these bytes, if it is well formed at this prime
abbrev pub line_for : ℕ → List ℕ → Option Line
line_for prime bytes = line_at bytes >>= if_line prime

abbrev pub is_finished : State → Bool
is_finished (Finished f ms) = true
is_finished _ = false

-- a state at this prime that is not the last
pub record IsOpen (prime : ℕ) (s : State) : Type 0 where
  pub at_prime : prime_of s ≡ prime
  pub unfinished : is_finished s ≡ false

-- the second is the next line after the first, read at this prime
pub record Follows (prime : ℕ) (old new : Place) : Type 0 where
  pub same : (s : State) → IsOpen prime s → read_from (old.number + 1) s (pieces old.text) ≡ reading (move s) new
  pub less : left new ≤ length old.text

-- the refusal is at the line that is told, or for want of memory
abbrev pub Refuses : (Line → Option State) → Place → ReadRefused → Type 0
Refuses from old (ReportRefused n) = reading from old ≡ Err n
Refuses from old OutOfMemory = Unit {0}

-- the text is read on from the second line as from the first, with what was read between them
abbrev pub Reads : {T : Type 0} → (Line → Option State) → (T → Line → Option State) → Place → Place → Result T ReadRefused → Type 0
Reads from to old new (Ok x) = reading from old ≡ reading (to x) new
Reads from to old new (Err e) = Refuses from old e

-- the same with the report of the whole text
abbrev pub ReadsReport : (Line → Option State) → Place → Result Report ReadRefused → Type 0
ReadsReport from old (Ok r) = reading from old ≡ Ok r
ReadsReport from old (Err e) = Refuses from old e

-- with one more of these items, or behind the last of them
abbrev pub ReadsItem : {T : Type 0} → (List T → Line → Option State) → (List T → Line → Option State) → List T → Place → Place → Result (Option T) ReadRefused → Type 0
ReadsItem within behind xs old new (Ok (Some x)) = reading (within xs) old ≡ reading (within (xs ++ x ∷ [])) new
ReadsItem within behind xs old new (Ok None) = reading (within xs) old ≡ reading (behind xs) new
ReadsItem within behind xs old new (Err e) = Refuses (within xs) old e

-- an item takes at least one line
abbrev pub Shrinks : {T : Type 0} → Place → Place → Result (Option T) ReadRefused → Type 0
Shrinks old new (Ok (Some x)) = left new < left old
Shrinks old new (Ok None) = left new ≤ left old
Shrinks old new (Err e) = Unit {0}

-- Items that stand one after another, in each of these ways: what a line makes behind some of them, and behind the last.
pub record Section (I T : Type 0) : Type 1 where
  pub fits : I → Type 0
  pub within : I → List T → Line → Option State
  pub behind : I → List T → Line → Option State

-- behind so many items it is one more, which takes at least one line, or their end
pub record IsItem {I T : Type 0} (s : Section I T) (before : List T → Type 0) (old new : Place) (r : Result (Option T) ReadRefused) : Type 0 where
  pub reads : (i : I) (xs : List T) → s.fits i → before xs → ReadsItem (s.within i) (s.behind i) xs old new r
  pub less : Shrinks old new r

-- it is all of the items
pub record AreItems {I T : Type 0} (s : Section I T) (old new : Place) (r : Result (List T) ReadRefused) : Type 0 where
  pub reads : (i : I) → s.fits i → Reads (s.within i []) (s.behind i) old new r
  pub less : OnOk r (left new ≤ left old)

-- behind so many items
abbrev pub counted : {T : Type 0} → ℕ → List T → Type 0
counted n xs = n ≡ length xs

abbrev pub any : {T : Type 0} → List T → Type 0
any xs = Unit {0}

-- the report that a text spells, or its refused line
abbrev pub IsReading : List ℕ → Result Report ReadRefused → Type 0
IsReading text (Ok r) = Spells text r
IsReading text (Err (ReportRefused line)) = IsRefused text line
IsReading text (Err OutOfMemory) = Unit {0}
