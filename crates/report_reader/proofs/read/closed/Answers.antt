use Rattle.std.proofs.Common.{◌∙◌, sym}
use Rattle.report_reader.proofs.Whole.{refused_behind}
use Rattle.report_reader.proofs.read.closed.Goals as goal

pub returns-else-is_last : goal.returns-else-is_last
returns-else-is_last c =
    refused_behind (record { prime = c.args.report.prime; complexes = c.args.report.complexes }) c.args.report.maps c.args.reader.now c.take.new.self c.next_refused.result
    (let a = c.take.ensures.line in let b = c.in-Some-Done.is in let d = c.in-Some-Done.field-0-is in cc) c.take.ensures.left (sym c.is_last.ensures ∙ c.if-is_last.false) c.next_refused.ensures
