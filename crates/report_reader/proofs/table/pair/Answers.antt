use Rattle.report_text_law.specs.declared.line.Line.TheVariants.{Pair as pair_line}
use Rattle.report_reader.{specs.Names.{any, pairs}, proofs.Items.pair_opens, proofs.Steps.{item_read, item_refused}}
use Rattle.report_reader.proofs.table.pair.Goals as goal

pub returns-in_err-primitive-in-Pair : goal.returns-in_err-primitive-in-Pair
returns-in_err-primitive-in-Pair c =
    item_refused (pairs c.args.prime) any c.args.prime (pair_line c.in-Pair.i c.in-Pair.j c.in-Pair.values) (λ ts. record { i = c.in-Pair.i; j = c.in-Pair.j; values = c.in-Pair.values; primitive = ts }) c.args.reader.now c.take.new.self c.next_line.new.self c.with_chain.new.reader
    (let a = c.take.ensures.line in let b = c.in-Some.is in let d = c.in-Pair.is in cc) c.take.ensures.left c.in_ok-next_line-in-Pair.ensures c.with_chain.result
    (pair_opens c.args.prime c.in-Pair.i c.in-Pair.j c.in-Pair.values c.next_line.new.self c.with_chain.new.reader c.with_chain.result c.with_chain.ensures.reads)
    c.in_err-primitive-in-Pair.field-0.0 c.from_residual-in_err-primitive-in-Pair.result c.in_err-primitive-in-Pair.was c.from_residual-in_err-primitive-in-Pair.ensures

pub returns-in_ok-primitive-in-Pair : goal.returns-in_ok-primitive-in-Pair
returns-in_ok-primitive-in-Pair c =
    item_read (pairs c.args.prime) any c.args.prime (pair_line c.in-Pair.i c.in-Pair.j c.in-Pair.values) (λ ts. record { i = c.in-Pair.i; j = c.in-Pair.j; values = c.in-Pair.values; primitive = ts }) c.args.reader.now c.take.new.self c.next_line.new.self c.with_chain.new.reader
    (let a = c.take.ensures.line in let b = c.in-Some.is in let d = c.in-Pair.is in cc) c.take.ensures.left c.in_ok-next_line-in-Pair.ensures c.with_chain.result
    (pair_opens c.args.prime c.in-Pair.i c.in-Pair.j c.in-Pair.values c.next_line.new.self c.with_chain.new.reader c.with_chain.result c.with_chain.ensures.reads)
    c.in_ok-primitive-in-Pair.primitive c.in_ok-primitive-in-Pair.was c.in_ok-primitive-in-Pair.ensures.less
