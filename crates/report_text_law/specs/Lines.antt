-- The lines of a certificate, in their order.
use Rattle.std.specs.Prelude.{ℕ, ◌+◌, List, [], ◌∷◌, ◌++◌, map, flat_map, length}
use Rattle.report_text_law.specs.Types.{Sent, CartanAnswer, Yes, No, CartanPart, Column, OperationPart, PairColumn, ProductPart, ComplexPart, DegreePart, InducedPart, MapPart}
pub use Rattle.report_text_law.specs.declared.line.Line.{Line}
pub use Rattle.report_text_law.specs.declared.line.Line.TheVariants.{Heading as heading_line, Prime as prime_line, Complex as complex_line, Facet as facet_line, Degree as degree_line, Below as below_line, Class as class_line, Product as product_line, Pair as pair_line, With as with_line, Operation as operation_line, Column as column_line, CartanYes as cartan_yes, CartanNo as cartan_no, Cycle as cycle_line, End as end_line, Map as map_line, Send as send_line, Induced as induced_line, Done as done_line}

-- A chain is a list of coefficients and simplices.
abbrev pub Chain : Type 0
Chain = List (ℕ × List ℕ)

-- j is the number of the first column
abbrev pub columns_from : ℕ → List Column → List Line
columns_from j [] = []
columns_from j (c ∷ cs) = column_line j c.values ∷ with_line c.primitive ∷ columns_from (j + 1) cs

abbrev pub degree_lines : ℕ → DegreePart → List Line
degree_lines n d = degree_line n (length d.classes) ∷ (map below_line d.below ++ map class_line d.classes)

-- n is the first degree
abbrev pub degrees_from : ℕ → List DegreePart → List Line
degrees_from n [] = []
degrees_from n (d ∷ ds) = degree_lines n d ++ degrees_from (n + 1) ds

abbrev pub pair_lines : PairColumn → List Line
pair_lines c = pair_line c.i c.j c.values ∷ with_line c.primitive ∷ []

abbrev pub product_lines : ProductPart → List Line
product_lines x = product_line x.a x.b ∷ flat_map pair_lines x.columns

abbrev pub operation_lines : OperationPart → List Line
operation_lines x = operation_line x.word x.number x.from x.to ∷ columns_from 1 x.columns

abbrev pub answer_lines : ℕ → ℕ → ℕ → ℕ → ℕ → CartanAnswer → List Line
answer_lines a i b j n (Yes primitive) = cartan_yes a i b j n ∷ with_line primitive ∷ []
answer_lines a i b j n (No value cycle) = cartan_no a i b j n value ∷ cycle_line cycle ∷ []

abbrev pub cartan_lines : CartanPart → List Line
cartan_lines x = answer_lines x.a x.i x.b x.j x.n x.answer

-- its tables, and its end
abbrev pub table_lines : ComplexPart → List Line
table_lines c = flat_map product_lines c.products ++ (flat_map operation_lines c.operations ++ (flat_map cartan_lines c.cartans ++ end_line ∷ []))

abbrev pub complex_lines : ComplexPart → List Line
complex_lines c = complex_line c.name ∷ (map facet_line c.facets ++ (degrees_from 0 c.degrees ++ table_lines c))

abbrev pub send_of : Sent → Line
send_of s = send_line s.from s.to

abbrev pub induced_lines : InducedPart → List Line
induced_lines x = induced_line x.q ∷ columns_from 1 x.columns

abbrev pub map_lines : MapPart → List Line
map_lines m = map_line m.name m.from m.to
    ∷ (map send_of m.sends
    ++ (flat_map induced_lines m.induced
    ++ end_line ∷ []))

abbrev pub certificate_lines : ℕ → List ComplexPart → List MapPart → List Line
certificate_lines p cs ms = heading_line ∷ prime_line p ∷ (flat_map complex_lines cs ++ (flat_map map_lines ms ++ done_line ∷ []))
