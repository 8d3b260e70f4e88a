use Rattle.report_text_law.specs.declared.line.Line.TheVariants.{Operation as operation_line}
use Rattle.report_reader.{specs.Names.{any, operations}, proofs.Items.operation_opens, proofs.Steps.{item_read, item_refused}}
use Rattle.report_reader.proofs.table.operation.Goals as goal

pub returns-in_err-columns-in-Operation : goal.returns-in_err-columns-in-Operation
returns-in_err-columns-in-Operation c =
    item_refused (operations c.args.prime) any c.args.prime (operation_line c.in-Operation.word c.in-Operation.number c.in-Operation.from c.in-Operation.to) (λ us. record { word = c.in-Operation.word; number = c.in-Operation.number; from = c.in-Operation.from; to = c.in-Operation.to; columns = us }) c.args.reader.now c.take.new.self c.next_line.new.self c.columns.new.reader
    (let a = c.take.ensures.line in let b = c.in-Some.is in let d = c.in-Operation.is in cc) c.take.ensures.left c.in_ok-next_line-in-Operation.ensures c.columns.result
    (operation_opens c.args.prime c.in-Operation.word c.in-Operation.number c.in-Operation.from c.in-Operation.to c.next_line.new.self c.columns.new.reader c.columns.result c.columns.ensures)
    c.in_err-columns-in-Operation.field-0.0 c.from_residual-in_err-columns-in-Operation.result c.in_err-columns-in-Operation.was c.from_residual-in_err-columns-in-Operation.ensures

pub returns-in_ok-columns-in-Operation : goal.returns-in_ok-columns-in-Operation
returns-in_ok-columns-in-Operation c =
    item_read (operations c.args.prime) any c.args.prime (operation_line c.in-Operation.word c.in-Operation.number c.in-Operation.from c.in-Operation.to) (λ us. record { word = c.in-Operation.word; number = c.in-Operation.number; from = c.in-Operation.from; to = c.in-Operation.to; columns = us }) c.args.reader.now c.take.new.self c.next_line.new.self c.columns.new.reader
    (let a = c.take.ensures.line in let b = c.in-Some.is in let d = c.in-Operation.is in cc) c.take.ensures.left c.in_ok-next_line-in-Operation.ensures c.columns.result
    (operation_opens c.args.prime c.in-Operation.word c.in-Operation.number c.in-Operation.from c.in-Operation.to c.next_line.new.self c.columns.new.reader c.columns.result c.columns.ensures)
    c.in_ok-columns-in-Operation.columns c.in_ok-columns-in-Operation.was c.in_ok-columns-in-Operation.ensures.less
