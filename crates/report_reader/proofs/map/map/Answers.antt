use Rattle.report_text_law.specs.declared.line.Line.TheVariants.{Map as map_line}
use Rattle.report_reader.{specs.Names.{any, maps}, proofs.Items.map_opens, proofs.Steps.item_refused}
use Rattle.report_reader.proofs.map.map.Goals as goal

pub returns-in_err-part-in-Map : goal.returns-in_err-part-in-Map
returns-in_err-part-in-Map c =
    item_refused (maps c.args.prime) any c.args.prime (map_line c.in-Map.name c.in-Map.from c.in-Map.to) (λ m. m) c.args.reader.now c.take.new.self c.next_line.new.self c.map_named.new.reader
    (let a = c.take.ensures.line in let b = c.in-Some.is in let d = c.in-Map.is in cc) c.take.ensures.left c.in_ok-next_line-in-Map.ensures c.map_named.result
    (map_opens c.args.prime c.in-Map.name c.in-Map.from c.in-Map.to c.next_line.new.self c.map_named.new.reader c.map_named.result c.map_named.ensures.reads)
    c.in_err-part-in-Map.field-0.0 c.from_residual-in_err-part-in-Map.result c.in_err-part-in-Map.was c.from_residual-in_err-part-in-Map.ensures
