-- What the program answers to words and bytes.
use Rattle.std.specs.{Prelude.{◌≡◌, ◌≤◌, ◌<◌, ◌^◌, ℕ, ℤ, List, [], ◌++◌, Some, Ok, Err, IfSome, unwrap_or}, declared.option.Option.Option, Io.KnownBytes.Appends, Cmp.Lexicographic.slice_cmp, Ordering.nat_cmp}
use Rattle.comch_io.specs.{Causes.Rose, Reading.{AppendsPrefix, Gave}}
use Rattle.complex_file.specs.{Names.Spelled, Input.input_of}
use Rattle.report.specs.declared.{form.Form.Form, job.Report.Report}
use Rattle.report_law.specs.Names.{Headline, IsReportOf, IsWithinLimit, PassesLimit}
use Rattle.report_text_law.specs.Text.{text_of}
use Rattle.bockstein_text.specs.Names.{IsBocksteinText}
use Rattle.operad_law.specs.FormalSums.{IsFormalSum, IsSameSum}
use Rattle.table_reduction_law.specs.Names.{candidate_count, may_element}
use Rattle.may_elements.specs.Counted.{cut_off}
use Rattle.comch_app.specs.{Elements.element_text, declared.status.Status.Status, declared.status.Status.TheVariants.{Done, BadWords, InputRefused, TooManyTerms, OutOfMemory, ReadFault, WriteFault}, Refusals.refusal}

-- ---- bases, reports, certificates and Bocksteins

-- The text of the report of a job in a form: what is listed is the job's canonical data, and the headline holds of it.
pub record IsReportText (form : Form) (job : Spelled) (text : List ℕ) : Type 0 where
  pub report : Report
  pub of_job : IsReportOf form job report
  pub headline : Headline form job report
  pub text_is : text ≡ text_of form report

-- What is answered to a job: the text of its report, or, where there is a limit, that its counted terms pass it.
abbrev pub JobAnswers : Form → Option ℕ → Spelled → Status → List ℕ → Type 0
JobAnswers form limit job Done text = IfSome limit (IsWithinLimit job) × IsReportText form job text
JobAnswers form limit job (TooManyTerms count most) text = (limit ≡ Some most) × PassesLimit job most count × (text ≡ refusal (TooManyTerms count most))
JobAnswers form limit job _ text = ⊥

-- What is answered to a job whose Bocksteins are wanted: their text.
abbrev pub BocksteinAnswers : Spelled → Status → List ℕ → Type 0
BocksteinAnswers job Done text = IsBocksteinText job text
BocksteinAnswers job _ text = ⊥

-- What may be answered to these bytes: what is answered to the job that they spell, or the line of their first fault. Want
-- of memory and a failed read may stand in the place of both.
abbrev pub InputAnswers : (Spelled → Status → List ℕ → Type 0) → List ℕ → Status → List ℕ → Type 0
InputAnswers answers bytes (InputRefused kind line) text = (input_of bytes ≡ Err (record { kind = kind; line = line })) × (text ≡ refusal (InputRefused kind line))
InputAnswers answers bytes OutOfMemory text = text ≡ refusal OutOfMemory
InputAnswers answers bytes ReadFault text = text ≡ refusal ReadFault
InputAnswers answers bytes status text = (job : Spelled) × (input_of bytes ≡ Ok job) × answers job status text

-- ---- May elements

-- the text of the May element of degree d for p: its terms are ascending lists of values, none with the coefficient 0
abbrev pub IsElementText : ℕ → ℕ → List ℕ → Type 0
IsElementText p d text = (ts : List (List ℕ × ℤ)) × IsFormalSum (slice_cmp nat_cmp) ts × IsSameSum ts (may_element p d) × (text ≡ element_text p d ts)

-- What `may` may answer for a prime p and a degree d: the element, or that its candidates are more than 10^8.
abbrev pub MayAnswers : ℕ → ℕ → Status → List ℕ → Type 0
MayAnswers p d Done text = (candidate_count p d ≤ 10 ^ 8) × IsElementText p d text
MayAnswers p d (TooManyTerms count limit) text =
    (10 ^ 8 < candidate_count p d) × (count ≡ cut_off (candidate_count p d)) × (limit ≡ 10 ^ 8) × (text ≡ refusal (TooManyTerms count limit))
MayAnswers p d OutOfMemory text = text ≡ refusal OutOfMemory
MayAnswers p d _ text = ⊥

-- ---- runs

-- What may be answered to words that are not taken.
abbrev pub RefusesWords : Status → List ℕ → Type 0
RefusesWords BadWords text = text ≡ refusal BadWords
RefusesWords OutOfMemory text = text ≡ refusal OutOfMemory
RefusesWords _ text = ⊥

-- A run ends with a status and a text that may be answered, and the text was written whole. A failed write has its own
-- status, and then a front of such a text was written.
abbrev pub Ends : (Status → List ℕ → Type 0) → Option (List ℕ) → Option (List ℕ) → Status → Type 0
Ends answers old new WriteFault = (status : Status) × (text : List ℕ) × answers status text × AppendsPrefix old new text
Ends answers old new status = (text : List ℕ) × answers status text × Appends old new text

-- A failed read is answered only where one failed.
abbrev pub AtFault : Type 0 → (Status → List ℕ → Type 0) → Status → List ℕ → Type 0
AtFault failed answers ReadFault text = answers ReadFault text × failed
AtFault failed answers status text = answers status text

-- A run ends with an answer to bytes that were read: those that the source gave, and behind them those that it tells to be
-- left. At a source that tells, they are all that it had left before.
pub record EndsRead (answers : List ℕ → Status → List ℕ → Type 0) (left left_now : Option (List ℕ)) (given given_now faults faults_now : ℕ) (old new : Option (List ℕ)) (status : Status) : Type 0 where
  pub read : List ℕ
  pub gave : Gave left left_now given given_now read
  pub ends : Ends (AtFault (Rose faults faults_now) (answers (read ++ unwrap_or left_now []))) old new status

-- a run that refuses wrote its one line and nothing else, whatever was read
abbrev pub WritesRefusal : Option (List ℕ) → Option (List ℕ) → Status → Type 0
WritesRefusal old new Done = Unit {0}
WritesRefusal old new WriteFault = Unit {0}
WritesRefusal old new status = Appends old new (refusal status)
