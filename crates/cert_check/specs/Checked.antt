-- What the checker answers.
use Rattle.report.specs.declared.job.Report.{Report}
use Rattle.certificate_law.specs.Names.{Certifies, FailsFirst}
use Rattle.cert_check.specs.declared.checked.{Checked.Checked, Checked.TheVariants.{Yes, No}}

-- that the report certifies, or the least condition that fails and its first line that does
abbrev pub IsChecked : Report → Checked → Type 0
IsChecked r Yes = Certifies r
IsChecked r (No condition line) = FailsFirst r condition line
