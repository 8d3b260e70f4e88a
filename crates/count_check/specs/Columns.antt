-- What is asked of the lines of columns.
use Rattle.std.specs.Prelude.{ℕ, ◌^◌, ◌<◌, Bool, ◌&&◌, List, [], ◌∷◌, length}
use Rattle.linear_law.specs.Names.{Each}
use Rattle.report.specs.declared.{columns.Column.Column, columns.PairColumn.PairColumn, columns.ProductPart.ProductPart, complex.ComplexPart.ComplexPart, complex.DegreePart.DegreePart}
use Rattle.report_law.specs.Names.{has_class}
use Rattle.certificate_law.specs.Names.{IsColumnAt, IsCountLine, Stated, product_column, with_stands}

-- The line of a column is asked to be that of a matrix with so many columns and rows.
pub record AsksColumns (p : ℕ) (line : ℕ → Column → Stated) (columns rows : ℕ) : Type 0 where
  pub asks : (k : ℕ) (y : Column) → IsCountLine p (line k y) → IsColumnAt columns rows k y
  pub holds : (k : ℕ) (y : Column) → IsColumnAt columns rows k y → IsCountLine p (line k y)

-- the line of a column, and the one under it
abbrev pub with_primitive : (ℕ → Column → Stated) → ℕ → Column → List Stated
with_primitive line k y = line k y ∷ with_stands y.primitive ∷ []

-- ranks that are so small that all live lines can be counted
abbrev pub AreSmall : List ℕ → Type 0
AreSmall ranks = Each (λ r. r < 2 ^ 28) ranks

-- so few classes are listed in each degree
abbrev pub AreFew : List DegreePart → Type 0
AreFew degrees = Each (λ d. length d.classes < 2 ^ 28) degrees

-- the line of a column of a product, and the one under it
abbrev pub with_numbers : ComplexPart → ProductPart → ℕ → PairColumn → List Stated
with_numbers c x k y = product_column c x k y ∷ with_stands y.primitive ∷ []

-- the cohomology of both complexes is not zero in degree q
abbrev pub is_induced : List ℕ → List ℕ → ℕ → Bool
is_induced from to q = has_class from q && has_class to q
