-- What `check` answers to a text.
use Rattle.std.specs.Prelude.{◌≡◌, ◌≤◌, ◌<◌, ◌^◌, ℕ, zero, suc, List, Some, length, codes}
use Rattle.linear_law.specs.Names.{Each}
use Rattle.complex_file.specs.declared.kind.InputKind.TheVariants.{TooLong}
use Rattle.report.specs.declared.{form.Form.TheVariants.Certificate, job.Report.Report}
use Rattle.report_law.specs.Names.{ComplexPromise}
use Rattle.report_text_law.specs.Names.{IsRefused, Spells}
use Rattle.certificate_law.specs.Names.{Certifies, FailsFirst, MapShown, itself}
use Rattle.comch_app.specs.{declared.status.Status.Status, declared.status.Status.TheVariants.{Done, No, InputRefused, OutOfMemory, ReadFault}, Answers.{InputAnswers, JobAnswers}, Refusals.{ended, refusal}}

-- The text is the certificate of a report that certifies. So all that the headline promises holds of what it lists, of the
-- complexes that its facets give and of its maps.
pub record IsShown (text : List ℕ) : Type 0 where
  pub report : Report
  pub spells : Spells text report
  pub certifies : Certifies report
  pub complexes : Each (λ c. ComplexPromise Certificate report.prime (itself c) c) report.complexes
  pub maps : Each (MapShown report) report.maps

-- Why it is not: it is no certificate, or the report that it spells fails a condition first there.
abbrev pub IsRefuted : List ℕ → ℕ → ℕ → Type 0
IsRefuted text zero line = IsRefused text line
IsRefuted text (suc before) line = (r : Report) × Spells text r × FailsFirst r (suc before) line

-- What may be answered to a text. Texts of more than 32 MiB are not read.
abbrev pub CheckAnswers : List ℕ → Status → List ℕ → Type 0
CheckAnswers bytes Done text = (length bytes ≤ 33554432) × IsShown bytes × (text ≡ ended (codes "yes"))
CheckAnswers bytes (No condition line) text = (length bytes ≤ 33554432) × IsRefuted bytes condition line × (text ≡ refusal (No condition line))
CheckAnswers bytes (InputRefused kind line) text = (33554432 < length bytes) × (kind ≡ TooLong) × (line ≡ 0) × (text ≡ refusal (InputRefused kind line))
CheckAnswers bytes OutOfMemory text = text ≡ refusal OutOfMemory
CheckAnswers bytes ReadFault text = text ≡ refusal ReadFault
CheckAnswers bytes _ text = ⊥

-- what `certify` writes, within a limit on the counted terms that may be asked for
pub record IsCertified (text : List ℕ) : Type 0 where
  pub bytes : List ℕ
  pub limit : ℕ
  pub allowed : limit ≤ 10 ^ 12
  pub written : InputAnswers (JobAnswers Certificate (Some limit)) bytes Done text

abbrev pub IsNo : Status → Type 0
IsNo (No condition line) = Unit {0}
IsNo _ = ⊥
