-- How many lines the sections of a certificate have.
use Rattle.std.specs.Prelude.{ℕ, ◌+◌, ◌*◌, length, sum_by}
use Rattle.certificate_law.specs.Types.{OperationPart, ProductPart, ComplexPart, DegreePart, InducedPart, MapPart}

-- a degree, with what is listed under it
abbrev pub degree_lines : DegreePart → ℕ
degree_lines d = length d.below + length d.classes + 1

-- a block with this many columns: two lines for each
abbrev pub matrix_lines : ℕ → ℕ
matrix_lines columns = 2 * columns + 1

abbrev pub product_lines : ProductPart → ℕ
product_lines x = matrix_lines (length x.columns)

abbrev pub operation_lines : OperationPart → ℕ
operation_lines x = matrix_lines (length x.columns)

abbrev pub induced_lines : InducedPart → ℕ
induced_lines x = matrix_lines (length x.columns)

abbrev pub complex_lines : ComplexPart → ℕ
complex_lines c = length c.facets + sum_by degree_lines c.degrees + (sum_by product_lines c.products + sum_by operation_lines c.operations)
    + 2 * length c.cartans + 2

abbrev pub map_lines : MapPart → ℕ
map_lines m = length m.sends + sum_by induced_lines m.induced + 2
