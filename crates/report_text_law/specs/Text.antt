-- The text of a report in each form.
use Rattle.std.specs.Prelude.{ℕ, List}
use Rattle.report_text_law.specs.{Types.{Form, Report}, Lines.certificate_lines, Spelling.printed}
use Rattle.report.specs.Names.{tables}

-- The lines of the certificate that stand in this form. A text without tables has no maps at all.
unfoldable pub text_of : Form → Report → List ℕ
text_of form r = printed form (certificate_lines r.prime r.complexes (tables form r.maps))
