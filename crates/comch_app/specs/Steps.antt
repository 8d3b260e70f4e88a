-- What the steps of a run give: forms for the contracts of private functions.
use Rattle.std.specs.{Prelude.{◌≡◌, ◌⊎◌, ℕ, ◌≤◌, ◌^◌, List, [], ◌++◌, Some, None, Err, Result, IfOk, unwrap_or}, declared.option.Option.Option, Io.KnownBytes.{Appends, IsAtEnd}}
use Rattle.comch_io.specs.{Causes.Rose, Reading.{AppendsPrefix, Gave}}
use Rattle.comch_app.specs.{declared.status.Status.Status, declared.status.Status.TheVariants.{Done, No, InputRefused, TooManyTerms, WriteFault}, declared.answer.Stop.Stop, declared.answer.Asked.Asked, declared.answer.Wanted.Wanted, Answers.{BocksteinAnswers, InputAnswers, JobAnswers}, Checks.CheckAnswers, Refusals.refusal}
use Rattle.comch_app.specs.declared.answer.Stop.TheVariants as stop
use Rattle.comch_app.specs.declared.answer.Asked.TheVariants as asked
use Rattle.comch_app.specs.declared.answer.Wanted.TheVariants as wanted
use Rattle.complex_file.specs.Names.{Spelled}
use Rattle.report.specs.declared.form.Form.TheVariants.{Basis}

-- a stop at a read comes only where the count of faults rose, and everything else leaves the count
abbrev pub StopCause : {X : Type 0} → ℕ → ℕ → Result X Stop → Type 0
StopCause before now (Err stop.Read) = (before ≤ now) × Rose before now
StopCause before now _ = now ≡ before

-- Statuses that the work itself gives: no fault and no want of memory. A refusal and a no have their line as text.
abbrev pub IsMade : Status → List ℕ → Type 0
IsMade Done text = Unit {0}
IsMade (No condition line) text = text ≡ refusal (No condition line)
IsMade (InputRefused kind line) text = text ≡ refusal (InputRefused kind line)
IsMade (TooManyTerms count limit) text = text ≡ refusal (TooManyTerms count limit)
IsMade _ text = ⊥

-- nothing is left where the run is done
abbrev pub IsReadWhole : Option (List ℕ) → Status → Type 0
IsReadWhole left Done = IsAtEnd left
IsReadWhole left _ = Unit {0}

-- the text was written, or a front of it
abbrev pub SaysIt : Status → List ℕ → Option (List ℕ) → Option (List ℕ) → Status → Type 0
SaysIt status text old new result = ((result ≡ status) × Appends old new text) ⊎ ((result ≡ WriteFault) × AppendsPrefix old new text)

abbrev pub SaidCause : Status → ℕ → ℕ → Status → Type 0
SaidCause status before now result = ((result ≡ status) × (now ≡ before)) ⊎ ((result ≡ WriteFault) × (before ≤ now) × Rose before now)

-- a limit that is wanted is within its own
abbrev pub IsWithinMost : Wanted → Type 0
IsWithinMost wanted.Bases = Unit {0}
IsWithinMost (wanted.Report form limit) = limit ≤ 10 ^ 12
IsWithinMost wanted.Bocksteins = Unit {0}

abbrev pub IsAskable : Asked → Type 0
IsAskable (asked.OfJob wanted) = IsWithinMost wanted
IsAskable asked.Verdict = Unit {0}

-- how many bytes may be read
abbrev pub most_bytes : Asked → ℕ
most_bytes (asked.OfJob wanted) = 1048576
most_bytes asked.Verdict = 33554432

-- what is answered to a job, and to bytes
abbrev pub WantedOf : Wanted → Spelled → Status → List ℕ → Type 0
WantedOf wanted.Bases = JobAnswers Basis None
WantedOf (wanted.Report form limit) = JobAnswers form (Some limit)
WantedOf wanted.Bocksteins = BocksteinAnswers

abbrev pub AskedAnswers : Asked → List ℕ → Status → List ℕ → Type 0
AskedAnswers (asked.OfJob wanted) = InputAnswers (WantedOf wanted)
AskedAnswers asked.Verdict = CheckAnswers

-- What may be answered to bytes that were read: those that the source gave, and behind them those that it tells to be left.
pub record AnswersRead (a : Asked) (left left_now : Option (List ℕ)) (given given_now : ℕ) (result : Result (Status × List ℕ) Stop) : Type 0 where
  pub read : List ℕ
  pub gave : Gave left left_now given given_now read
  pub answer : IfOk result (λ p. AskedAnswers a (read ++ unwrap_or left_now []) p.0 p.1)
