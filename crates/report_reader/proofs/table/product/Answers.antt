use Rattle.report_text_law.specs.declared.line.Line.TheVariants.{Product as product_line}
use Rattle.report_reader.{specs.Names.{any, products}, proofs.Items.product_opens, proofs.Steps.{item_read, item_refused}}
use Rattle.report_reader.proofs.table.product.Goals as goal

pub returns-in_err-columns-in-Product : goal.returns-in_err-columns-in-Product
returns-in_err-columns-in-Product c =
    item_refused (products c.args.prime) any c.args.prime (product_line c.in-Product.a c.in-Product.b) (λ us. record { a = c.in-Product.a; b = c.in-Product.b; columns = us }) c.args.reader.now c.take.new.self c.next_line.new.self c.pairs.new.reader
    (let a = c.take.ensures.line in let b = c.in-Some.is in let d = c.in-Product.is in cc) c.take.ensures.left c.in_ok-next_line-in-Product.ensures c.pairs.result
    (product_opens c.args.prime c.in-Product.a c.in-Product.b c.next_line.new.self c.pairs.new.reader c.pairs.result c.pairs.ensures)
    c.in_err-columns-in-Product.field-0.0 c.from_residual-in_err-columns-in-Product.result c.in_err-columns-in-Product.was c.from_residual-in_err-columns-in-Product.ensures

pub returns-in_ok-columns-in-Product : goal.returns-in_ok-columns-in-Product
returns-in_ok-columns-in-Product c =
    item_read (products c.args.prime) any c.args.prime (product_line c.in-Product.a c.in-Product.b) (λ us. record { a = c.in-Product.a; b = c.in-Product.b; columns = us }) c.args.reader.now c.take.new.self c.next_line.new.self c.pairs.new.reader
    (let a = c.take.ensures.line in let b = c.in-Some.is in let d = c.in-Product.is in cc) c.take.ensures.left c.in_ok-next_line-in-Product.ensures c.pairs.result
    (product_opens c.args.prime c.in-Product.a c.in-Product.b c.next_line.new.self c.pairs.new.reader c.pairs.result c.pairs.ensures)
    c.in_ok-columns-in-Product.columns c.in_ok-columns-in-Product.was c.in_ok-columns-in-Product.ensures.less
