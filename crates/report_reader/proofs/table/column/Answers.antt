use Rattle.std.proofs.Common.{arith}
use Rattle.report_text_law.specs.declared.line.Line.TheVariants.{Column as column_line}
use Rattle.report_reader.{specs.Names.{counted, columns}, proofs.Items.column_opens, proofs.Steps.{item_read, item_refused}}
use Rattle.report_reader.proofs.table.column.Goals as goal

pub returns-in_err-primitive-in-Column : goal.returns-in_err-primitive-in-Column
returns-in_err-primitive-in-Column c =
    item_refused (columns c.args.prime) (counted c.args.count) c.args.prime (column_line c.in-Column.j c.in-Column.values) (λ ts. record { values = c.in-Column.values; primitive = ts }) c.args.reader.now c.take.new.self c.next_line.new.self c.with_chain.new.reader
    (let a = c.take.ensures.line in let b = c.in-Some.is in let d = c.in-Column.is in cc) c.take.ensures.left c.in_ok-next_line-in-Column.ensures c.with_chain.result
    (column_opens c.args.prime c.args.count c.in-Column.j c.in-Column.values c.next_line.new.self c.with_chain.new.reader c.with_chain.result (omega (arith, c.if-j-eq0.false, c.if-j-count.false)) c.with_chain.ensures.reads)
    c.in_err-primitive-in-Column.field-0.0 c.from_residual-in_err-primitive-in-Column.result c.in_err-primitive-in-Column.was c.from_residual-in_err-primitive-in-Column.ensures

pub returns-in_ok-primitive-in-Column : goal.returns-in_ok-primitive-in-Column
returns-in_ok-primitive-in-Column c =
    item_read (columns c.args.prime) (counted c.args.count) c.args.prime (column_line c.in-Column.j c.in-Column.values) (λ ts. record { values = c.in-Column.values; primitive = ts }) c.args.reader.now c.take.new.self c.next_line.new.self c.with_chain.new.reader
    (let a = c.take.ensures.line in let b = c.in-Some.is in let d = c.in-Column.is in cc) c.take.ensures.left c.in_ok-next_line-in-Column.ensures c.with_chain.result
    (column_opens c.args.prime c.args.count c.in-Column.j c.in-Column.values c.next_line.new.self c.with_chain.new.reader c.with_chain.result (omega (arith, c.if-j-eq0.false, c.if-j-count.false)) c.with_chain.ensures.reads)
    c.in_ok-primitive-in-Column.primitive c.in_ok-primitive-in-Column.was c.in_ok-primitive-in-Column.ensures.less
