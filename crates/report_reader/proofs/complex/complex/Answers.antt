use Rattle.report_text_law.specs.declared.line.Line.TheVariants.{Complex as complex_line}
use Rattle.report_reader.{specs.Names.{any, complexes}, proofs.Items.complex_opens, proofs.Steps.item_refused}
use Rattle.report_reader.proofs.complex.complex.Goals as goal

pub returns-in_err-part-in-Complex : goal.returns-in_err-part-in-Complex
returns-in_err-part-in-Complex c =
    item_refused (complexes c.args.prime) any c.args.prime (complex_line c.in-Complex.name) (λ c. c) c.args.reader.now c.take.new.self c.next_line.new.self c.complex_named.new.reader
    (let a = c.take.ensures.line in let b = c.in-Some.is in let d = c.in-Complex.is in cc) c.take.ensures.left c.in_ok-next_line-in-Complex.ensures c.complex_named.result
    (complex_opens c.args.prime c.in-Complex.name c.next_line.new.self c.complex_named.new.reader c.complex_named.result c.complex_named.ensures.reads)
    c.in_err-part-in-Complex.field-0.0 c.from_residual-in_err-part-in-Complex.result c.in_err-part-in-Complex.was c.from_residual-in_err-part-in-Complex.ensures
