use Rattle.std.proofs.Common.{true, false, sym, ◌∙◌}
use Rattle.report_reader.proofs.Lines.{line_kept}
use Rattle.report_reader.proofs.reader.well_formed.Goals as goal

pub returns-then-is_line : goal.returns-then-is_line
returns-then-is_line c = line_kept c.args.prime c.args.bytes.now c.in-Some.line true (sym c.in-Some.is ∙ c.in_ok-line.ensures) (sym c.is_line.ensures ∙ c.if-is_line.true)

pub returns-else-is_line : goal.returns-else-is_line
returns-else-is_line c = line_kept c.args.prime c.args.bytes.now c.in-Some.line false (sym c.in-Some.is ∙ c.in_ok-line.ensures) (sym c.is_line.ensures ∙ c.if-is_line.false)
