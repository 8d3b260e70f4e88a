-- The text of the Bocksteins of a job: which matrices it lists, and how they are spelled.
use Rattle.std.specs.{Prelude.{◌≡◌, ℕ, ◌+◌, ◌&&◌, List, [], ◌∷◌, ◌++◌, codes, flat_map, map}, List.{AllZip, filter}, Fmt.decimal}
use Rattle.linear_law.specs.Names.{Each}
use Rattle.simplicial_law.specs.Names.{HasCoordinates}
use Rattle.bockstein_law.specs.Bockstein.{bockstein}
use Rattle.complex_file.specs.{Names.Spelled, declared.block.ComplexBlock.ComplexBlock}
use Rattle.report_law.specs.Names.{AreClasses, Classes, classes_in, cochains_in, degrees, has_class, ranks}
use Rattle.report_text_law.specs.{Names.{ended, joined, spelled}, declared.line.Line.TheVariants.{Column as column_line, Complex as complex_line, Done as done_line, End as end_line, Prime as prime_line}}

-- the matrix of the Bockstein from a degree to the next, column by column
pub record Matrix : Type 0 where
  pub from : ℕ
  pub columns : List (List ℕ)

-- what is listed of a complex
pub record Bocksteins : Type 0 where
  pub name : List ℕ
  pub matrices : List Matrix

-- ---- what is listed

-- column j has the coordinates of the Bockstein of class j
abbrev pub IsMatrix : List (List ℕ) → ℕ → Classes → Matrix → Type 0
IsMatrix facets p classes m =
    AllZip (λ column z. HasCoordinates facets (m.from + 1) p (cochains_in classes (m.from + 1)) (bockstein p z) column) m.columns (cochains_in classes m.from)

-- the degrees from which there is a matrix: the cohomology in the degree and in the next is not zero
abbrev pub bockstein_degrees : List ℕ → List ℕ
bockstein_degrees ranks = filter (λ q. has_class ranks q && has_class ranks (q + 1)) (degrees ranks)

-- the matrices of a complex, by degree, on its canonical classes
pub record AreBocksteins (p : ℕ) (block : ComplexBlock) (b : Bocksteins) : Type 0 where
  pub name : b.name ≡ block.name
  pub classes : Classes
  pub canonical : AreClasses block.facets p classes
  pub degrees : map (λ m. m.from) b.matrices ≡ bockstein_degrees (ranks classes)
  pub matrices : Each (IsMatrix block.facets p classes) b.matrices

-- ---- how it is spelled

abbrev pub matrix_heading : ℕ → List ℕ
matrix_heading q = joined 32 (codes "bockstein" ∷ decimal q ∷ codes "to" ∷ decimal (q + 1) ∷ [])

-- j is the number of the first column
abbrev pub columns_text : ℕ → List (List ℕ) → List ℕ
columns_text j [] = []
columns_text j (c ∷ cs) = ended (spelled (column_line j c)) ++ columns_text (j + 1) cs

abbrev pub matrix_text : Matrix → List ℕ
matrix_text m = ended (matrix_heading m.from) ++ columns_text 1 m.columns

abbrev pub bocksteins_text : Bocksteins → List ℕ
bocksteins_text b = ended (spelled (complex_line b.name)) ++ (flat_map matrix_text b.matrices ++ ended (spelled end_line))

-- The text of the Bocksteins of a job, complex by complex in the order of the file.
pub record IsBocksteinText (job : Spelled) (text : List ℕ) : Type 0 where
  pub complexes : List Bocksteins
  pub each : AllZip (AreBocksteins job.prime) job.complexes complexes
  pub text_is : text ≡ ended (codes "comch bockstein 1") ++ (ended (spelled (prime_line job.prime)) ++ (flat_map bocksteins_text complexes ++ ended (spelled done_line)))
