use Rattle.report_text_law.specs.declared.line.Line.TheVariants.{Induced as induced_line}
use Rattle.report_reader.{specs.Names.{any, induced_blocks}, proofs.Items.induced_opens, proofs.Steps.{item_read, item_refused}}
use Rattle.report_reader.proofs.map.induced_block.Goals as goal

pub returns-in_err-columns-in-Induced : goal.returns-in_err-columns-in-Induced
returns-in_err-columns-in-Induced c =
    item_refused (induced_blocks c.args.prime) any c.args.prime (induced_line c.in-Induced.q) (λ us. record { q = c.in-Induced.q; columns = us }) c.args.reader.now c.take.new.self c.next_line.new.self c.columns.new.reader
    (let a = c.take.ensures.line in let b = c.in-Some.is in let d = c.in-Induced.is in cc) c.take.ensures.left c.in_ok-next_line-in-Induced.ensures c.columns.result
    (induced_opens c.args.prime c.in-Induced.q c.next_line.new.self c.columns.new.reader c.columns.result c.columns.ensures)
    c.in_err-columns-in-Induced.field-0.0 c.from_residual-in_err-columns-in-Induced.result c.in_err-columns-in-Induced.was c.from_residual-in_err-columns-in-Induced.ensures

pub returns-in_ok-columns-in-Induced : goal.returns-in_ok-columns-in-Induced
returns-in_ok-columns-in-Induced c =
    item_read (induced_blocks c.args.prime) any c.args.prime (induced_line c.in-Induced.q) (λ us. record { q = c.in-Induced.q; columns = us }) c.args.reader.now c.take.new.self c.next_line.new.self c.columns.new.reader
    (let a = c.take.ensures.line in let b = c.in-Some.is in let d = c.in-Induced.is in cc) c.take.ensures.left c.in_ok-next_line-in-Induced.ensures c.columns.result
    (induced_opens c.args.prime c.in-Induced.q c.next_line.new.self c.columns.new.reader c.columns.result c.columns.ensures)
    c.in_ok-columns-in-Induced.columns c.in_ok-columns-in-Induced.was c.in_ok-columns-in-Induced.ensures.less
