-- The laws of reading.
use Rattle.std.specs.Prelude.{◌≡◌, ℕ, true, List, Ok, Err}
use Rattle.report_text_law.specs.{Types.{Report, Form, Certificate}, Bytes.read_text, Certificates.{Spells, IsRefused}, Text.text_of, WellFormed.is_well_formed}
use Rattle.report.specs.Names.{outline}

-- What is read is spelled so, what is spelled so is read, and the refused line is the least.
pub record ReadingLaw : Type 0 where
  pub sound : (text : List ℕ) (r : Report) → read_text text ≡ Ok r → Spells text r
  pub whole : (text : List ℕ) (r : Report) → Spells text r → read_text text ≡ Ok r
  pub refused : (text : List ℕ) (line : ℕ) → read_text text ≡ Err line → IsRefused text line

-- Different reports have different certificates.
abbrev pub OneReport : Type 0
OneReport = (r s : Report) → is_well_formed r ≡ true → is_well_formed s ≡ true → text_of Certificate r ≡ text_of Certificate s → r ≡ s

-- The refused line of a text is one.
abbrev pub OneRefusedLine : Type 0
OneRefusedLine = (text : List ℕ) (k l : ℕ) → IsRefused text k → IsRefused text l → k ≡ l

-- The text of a report in a form is that of its outline, so it tells nothing else.
abbrev pub OutlineLaw : Type 0
OutlineLaw = (form : Form) (r : Report) → text_of form (outline form r) ≡ text_of form r
