use Rattle.report.specs.declared.columns.CartanAnswer.TheVariants.{Yes, No}
use Rattle.report_text_law.specs.declared.line.Line.TheVariants.{CartanYes as cartan_yes, CartanNo as cartan_no}
use Rattle.report_reader.{specs.Names.{any, cartans}, proofs.Items.{yes_opens, no_opens}, proofs.Steps.{item_read, item_refused}}
use Rattle.report_reader.proofs.table.cartan.Goals as goal

pub returns-in_err-primitive-in-CartanYes : goal.returns-in_err-primitive-in-CartanYes
returns-in_err-primitive-in-CartanYes c =
    item_refused (cartans c.args.prime) any c.args.prime (cartan_yes c.in-CartanYes.a c.in-CartanYes.i c.in-CartanYes.b c.in-CartanYes.j c.in-CartanYes.n) (λ ts. record { a = c.in-CartanYes.a; i = c.in-CartanYes.i; b = c.in-CartanYes.b; j = c.in-CartanYes.j; n = c.in-CartanYes.n; answer = Yes ts }) c.args.reader.now c.take.new.self c.next_line.new.self c.with_chain.new.reader
    (let a = c.take.ensures.line in let b = c.in-Some.is in let d = c.in-CartanYes.is in cc) c.take.ensures.left c.in_ok-next_line-in-CartanYes.ensures c.with_chain.result
    (yes_opens c.args.prime c.in-CartanYes.a c.in-CartanYes.i c.in-CartanYes.b c.in-CartanYes.j c.in-CartanYes.n c.next_line.new.self c.with_chain.new.reader c.with_chain.result c.with_chain.ensures.reads)
    c.in_err-primitive-in-CartanYes.field-0.0 c.from_residual-in_err-primitive-in-CartanYes.result c.in_err-primitive-in-CartanYes.was c.from_residual-in_err-primitive-in-CartanYes.ensures

pub returns-in_ok-primitive-in-CartanYes : goal.returns-in_ok-primitive-in-CartanYes
returns-in_ok-primitive-in-CartanYes c =
    item_read (cartans c.args.prime) any c.args.prime (cartan_yes c.in-CartanYes.a c.in-CartanYes.i c.in-CartanYes.b c.in-CartanYes.j c.in-CartanYes.n) (λ ts. record { a = c.in-CartanYes.a; i = c.in-CartanYes.i; b = c.in-CartanYes.b; j = c.in-CartanYes.j; n = c.in-CartanYes.n; answer = Yes ts }) c.args.reader.now c.take.new.self c.next_line.new.self c.with_chain.new.reader
    (let a = c.take.ensures.line in let b = c.in-Some.is in let d = c.in-CartanYes.is in cc) c.take.ensures.left c.in_ok-next_line-in-CartanYes.ensures c.with_chain.result
    (yes_opens c.args.prime c.in-CartanYes.a c.in-CartanYes.i c.in-CartanYes.b c.in-CartanYes.j c.in-CartanYes.n c.next_line.new.self c.with_chain.new.reader c.with_chain.result c.with_chain.ensures.reads)
    c.in_ok-primitive-in-CartanYes.primitive c.in_ok-primitive-in-CartanYes.was c.in_ok-primitive-in-CartanYes.ensures.less

pub returns-in_err-cycle-in-CartanNo : goal.returns-in_err-cycle-in-CartanNo
returns-in_err-cycle-in-CartanNo c =
    item_refused (cartans c.args.prime) any c.args.prime (cartan_no c.in-CartanNo.a c.in-CartanNo.i c.in-CartanNo.b c.in-CartanNo.j c.in-CartanNo.n c.in-CartanNo.value) (λ ts. record { a = c.in-CartanNo.a; i = c.in-CartanNo.i; b = c.in-CartanNo.b; j = c.in-CartanNo.j; n = c.in-CartanNo.n; answer = No c.in-CartanNo.value ts }) c.args.reader.now c.take.new.self c.next_line-in-CartanNo.new.self c.cycle.new.reader
    (let a = c.take.ensures.line in let b = c.in-Some.is in let d = c.in-CartanNo.is in cc) c.take.ensures.left c.in_ok-next_line-in-CartanNo.ensures c.cycle.result
    (no_opens c.args.prime c.in-CartanNo.a c.in-CartanNo.i c.in-CartanNo.b c.in-CartanNo.j c.in-CartanNo.n c.in-CartanNo.value c.next_line-in-CartanNo.new.self c.cycle.new.reader c.cycle.result c.cycle.ensures.reads)
    c.in_err-cycle-in-CartanNo.field-0.0 c.from_residual-in_err-cycle-in-CartanNo.result c.in_err-cycle-in-CartanNo.was c.from_residual-in_err-cycle-in-CartanNo.ensures

pub returns-in_ok-cycle-in-CartanNo : goal.returns-in_ok-cycle-in-CartanNo
returns-in_ok-cycle-in-CartanNo c =
    item_read (cartans c.args.prime) any c.args.prime (cartan_no c.in-CartanNo.a c.in-CartanNo.i c.in-CartanNo.b c.in-CartanNo.j c.in-CartanNo.n c.in-CartanNo.value) (λ ts. record { a = c.in-CartanNo.a; i = c.in-CartanNo.i; b = c.in-CartanNo.b; j = c.in-CartanNo.j; n = c.in-CartanNo.n; answer = No c.in-CartanNo.value ts }) c.args.reader.now c.take.new.self c.next_line-in-CartanNo.new.self c.cycle.new.reader
    (let a = c.take.ensures.line in let b = c.in-Some.is in let d = c.in-CartanNo.is in cc) c.take.ensures.left c.in_ok-next_line-in-CartanNo.ensures c.cycle.result
    (no_opens c.args.prime c.in-CartanNo.a c.in-CartanNo.i c.in-CartanNo.b c.in-CartanNo.j c.in-CartanNo.n c.in-CartanNo.value c.next_line-in-CartanNo.new.self c.cycle.new.reader c.cycle.result c.cycle.ensures.reads)
    c.in_ok-cycle-in-CartanNo.cycle c.in_ok-cycle-in-CartanNo.was c.in_ok-cycle-in-CartanNo.ensures.less
