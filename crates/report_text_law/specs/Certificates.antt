-- Which texts spell a report, and which line of another text is refused.
use Rattle.std.specs.{Prelude.{◌≡◌, ℕ, ◌<◌, ◌≤◌, ◌==◌, true, List, ◌++◌, flat_map, length, take}, List.{list_all, slice_split}}
use Rattle.report_text_law.specs.{Types.{Report, Certificate}, Lines.{Line, certificate_lines}, Spelling.ended, Text.text_of, WellFormed.{is_line, is_well_formed}}

-- the lines are those of the certificate of this well formed report
pub record IsCertificate (r : Report) (ls : List Line) : Type 0 where
  pub well_formed : list_all (is_line r.prime) (certificate_lines r.prime r.complexes r.maps) ≡ true
  pub same : ls ≡ certificate_lines r.prime r.complexes r.maps

-- the lines are the first lines of a certificate
pub record Begins (ls : List Line) : Type 0 where
  pub found : Report
  pub more : List Line
  pub certificate : IsCertificate found (ls ++ more)

-- the text is the certificate of this well formed report
pub record Spells (text : List ℕ) (r : Report) : Type 0 where
  pub well_formed : is_well_formed r ≡ true
  pub same : text ≡ text_of Certificate r

-- the pieces between bytes 10: each but the last is a line with its byte 10
abbrev pub pieces : List ℕ → List (List ℕ)
pieces text = slice_split (λ b. b == 10) text

-- these lines with their bytes 10 are the first of the text of a certificate
pub record BeginsText (bs : List (List ℕ)) : Type 0 where
  pub found : Report
  pub more : List ℕ
  pub spells : Spells (flat_map ended bs ++ more) found

-- The text is no certificate, and this is the least number of its lines that are the first lines of no certificate.
-- A text all of whose lines are first lines of a certificate has here the number of its bytes 10 plus 1.
pub record IsRefused (text : List ℕ) (line : ℕ) : Type 0 where
  pub within : line ≤ length (pieces text)
  pub good : (k : ℕ) → k < line → BeginsText (take k (pieces text))
  pub bad : line < length (pieces text) → BeginsText (take line (pieces text)) → ⊥
  pub none : (r : Report) → Spells text r → ⊥
