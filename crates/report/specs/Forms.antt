-- What each text of a report shows.
use Rattle.std.specs.Prelude.{Bool, true, false, if◌then◌else◌, List, [], map}
use Rattle.report.specs.declared.{columns.CartanAnswer.CartanAnswer, columns.CartanAnswer.TheVariants.{Yes, No}, columns.CartanPart.CartanPart, columns.Column.Column, columns.OperationPart.OperationPart, columns.PairColumn.PairColumn, columns.ProductPart.ProductPart, complex.ComplexPart.ComplexPart, complex.DegreePart.DegreePart, form.Form.Form, form.Form.TheVariants.{Basis, Short, Certificate}, job.Report.Report, map.InducedPart.InducedPart, map.MapPart.MapPart}

-- each form has the classes; the short form and the certificate have the matrices and the verdicts too
abbrev pub has_tables : Form → Bool
has_tables Basis = false
has_tables Short = true
has_tables Certificate = true

-- the certificate alone has the facets, the sends, and the chains under degrees, columns and verdicts
abbrev pub has_details : Form → Bool
has_details Basis = false
has_details Short = false
has_details Certificate = true

abbrev pub tables : {X : Type 0} → Form → List X → List X
tables form xs = if has_tables form then xs else []

abbrev pub details : {X : Type 0} → Form → List X → List X
details form xs = if has_details form then xs else []

-- ---- the outline of a report in a form: what its text shows. All else is empty

abbrev pub outline_degree : Form → DegreePart → DegreePart
outline_degree form d = record { below = details form d.below; classes = d.classes }

abbrev pub outline_column : Form → Column → Column
outline_column form c = record { values = c.values; primitive = details form c.primitive }

abbrev pub outline_pair : Form → PairColumn → PairColumn
outline_pair form c = record { i = c.i; j = c.j; values = c.values; primitive = details form c.primitive }

abbrev pub outline_answer : Form → CartanAnswer → CartanAnswer
outline_answer form (Yes primitive) = Yes (details form primitive)
outline_answer form (No value cycle) = No value (details form cycle)

abbrev pub outline_product : Form → ProductPart → ProductPart
outline_product form x = record { a = x.a; b = x.b; columns = map (outline_pair form) x.columns }

abbrev pub outline_operation : Form → OperationPart → OperationPart
outline_operation form o = record { word = o.word; number = o.number; from = o.from; to = o.to; columns = map (outline_column form) o.columns }

abbrev pub outline_line : Form → CartanPart → CartanPart
outline_line form l = record { a = l.a; i = l.i; b = l.b; j = l.j; n = l.n; answer = outline_answer form l.answer }

abbrev pub outline_complex : Form → ComplexPart → ComplexPart
outline_complex form c = record {
  name = c.name;
  facets = details form c.facets;
  degrees = map (outline_degree form) c.degrees;
  products = tables form (map (outline_product form) c.products);
  operations = tables form (map (outline_operation form) c.operations);
  cartans = tables form (map (outline_line form) c.cartans);
}

abbrev pub outline_induced : Form → InducedPart → InducedPart
outline_induced form x = record { q = x.q; columns = map (outline_column form) x.columns }

abbrev pub outline_map : Form → MapPart → MapPart
outline_map form m = record { name = m.name; from = m.from; to = m.to; sends = details form m.sends; induced = map (outline_induced form) m.induced }

abbrev pub outline : Form → Report → Report
outline form r = record {
  prime = r.prime;
  complexes = map (outline_complex form) r.complexes;
  maps = tables form (map (outline_map form) r.maps);
}
