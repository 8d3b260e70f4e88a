use Rattle.report_text_law.specs.declared.line.Line.TheVariants.{Degree as degree_line}
use Rattle.report_reader.{specs.Names.{counted, degrees}, proofs.Items.degree_opens, proofs.Steps.item_refused}
use Rattle.report_reader.proofs.degree.degree.Goals as goal

pub returns-in_err-degree_part-in-Degree : goal.returns-in_err-degree_part-in-Degree
returns-in_err-degree_part-in-Degree c =
    item_refused (degrees c.args.prime) (counted c.args.number) c.args.prime (degree_line c.in-Degree.n c.in-Degree.rank) (λ d. d) c.args.reader.now c.take.new.self c.next_line.new.self c.degree_part.new.reader
    (let a = c.take.ensures.line in let b = c.in-Some.is in let d = c.in-Degree.is in cc) c.take.ensures.left c.in_ok-next_line-in-Degree.ensures c.degree_part.result
    (degree_opens c.args.prime c.in-Degree.rank c.args.number c.in-Degree.n c.next_line.new.self c.degree_part.new.reader c.degree_part.result c.if-n-number.false c.degree_part.ensures.reads)
    c.in_err-degree_part-in-Degree.field-0.0 c.from_residual-in_err-degree_part-in-Degree.result c.in_err-degree_part-in-Degree.was c.from_residual-in_err-degree_part-in-Degree.ensures
