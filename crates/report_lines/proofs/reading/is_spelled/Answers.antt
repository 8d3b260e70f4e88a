use Rattle.std.{proofs.Common.{◌∙◌, ◌++◌, List, ℕ, ap}, specs.Str.bytes_eq}
use Rattle.report.specs.declared.form.Form.TheVariants.{Certificate}
use Rattle.report_text_law.specs.Names.{shown}
use Rattle.report_lines.proofs.Spelled.{spelled_front}
use Rattle.report_lines.proofs.reading.is_spelled.Goals as goal

pub returns : goal.returns
returns c =
    let line = c.args.line.now in
    let text = c.as_slice-ended.ensures ∙ c.in_ok-spell.ensures ∙ ap (λ (t : List ℕ). t ++ shown Certificate line) c.new-text.ensures in
    c.eq.ensures ∙ ap (λ (s : List ℕ). bytes_eq s c.args.bytes.now) (spelled_front line c.as_slice-ended.result.now text).1
