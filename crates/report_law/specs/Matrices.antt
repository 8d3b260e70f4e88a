-- The matrices and verdicts of a complex, over its classes by degree, and those of a map.
use Rattle.std.specs.{Prelude.{Bool, ℕ, ◌+◌, ◌-◌, ◌<◌, List, [], map, length, get_or}, List.AllZip}
use Rattle.simplicial_law.specs.Names.{IsSimplex, Chain, Cochain, AreCanonicalClasses, cochain_of}
use Rattle.steenrod_law.specs.Names.{cochain_products, pull_back}
use Rattle.report_law.specs.{Types.{CartanAnswer, Column, Block, Line, Product}, Columns.{IsAnswer, IsColumn}, Differences.{IsCartanDifference, IsOperation}, Live.{cartan_op, target_degree}}

-- ---- the classes of a complex, by degree

abbrev pub Classes : Type 0
Classes = List (List Chain)

-- These are the canonical classes of a complex, for each degree that has a simplex, from 0 on.
pub record AreClasses (facets : List (List ℕ)) (p : ℕ) (classes : Classes) : Type 0 where
  pub each : (n : ℕ) → n < length classes → AreCanonicalClasses facets n p (get_or classes n [])
  pub inhabited : (n : ℕ) → n < length classes → (s : List ℕ) × IsSimplex facets n s
  pub whole : (n : ℕ) (s : List ℕ) → IsSimplex facets n s → n < length classes

-- the ranks of the degrees from 0 on
abbrev pub ranks : Classes → List ℕ
ranks classes = map (λ cs. length cs) classes

-- those of degree n, as terms and as cochains; none past the dimension
abbrev pub classes_in : Classes → ℕ → List Chain
classes_in classes n = get_or classes n []

abbrev pub cochains_in : Classes → ℕ → List Cochain
cochains_in classes n = map cochain_of (classes_in classes n)

-- the i-th class of degree n, from 1
abbrev pub class_at : Classes → ℕ → ℕ → Cochain
class_at classes n i = cochain_of (get_or (classes_in classes n) (i - 1) [])

-- ---- matrices

-- the matrix of the products of degrees a and b: a column for each pair of a class of degree a and one of degree b
abbrev pub IsProductBlock : Bool → List (List ℕ) → ℕ → Classes → Product → List Column → Type 0
IsProductBlock detailed facets p classes x columns =
    AllZip (λ z c. IsColumn detailed facets (x.a + x.b) p (cochains_in classes (x.a + x.b)) z c.values c.primitive)
    (cochain_products p x.a x.b (cochains_in classes x.a) (cochains_in classes x.b)) columns

-- the column of an operation on the cochain z: that of its result
pub record IsOperationColumn (detailed : Bool) (facets : List (List ℕ)) (p : ℕ) (classes : Classes) (block : Block) (z : Cochain) (column : Column) : Type 0 where
  pub result : Cochain
  pub is_result : IsOperation facets p block.op block.from z result
  pub is_column : IsColumn detailed facets block.to p (cochains_in classes block.to) result column.values column.primitive

-- the matrix of an operation: a column for each class of its first degree
abbrev pub IsOperationBlock : Bool → List (List ℕ) → ℕ → Classes → Block → List Column → Type 0
IsOperationBlock detailed facets p classes block columns = AllZip (IsOperationColumn detailed facets p classes block) (cochains_in classes block.from) columns

-- the matrix in degree q of a map f between two complexes: a column for each class of the second, that of its pull-back to
-- the first, which has these facets
abbrev pub IsInducedBlock : Bool → (ℕ → ℕ) → List (List ℕ) → ℕ → Classes → Classes → ℕ → List Column → Type 0
IsInducedBlock detailed f facets p from to q columns =
    AllZip (λ z c. IsColumn detailed facets q p (cochains_in from q) (pull_back f z) c.values c.primitive) (cochains_in to q) columns

-- ---- verdicts

-- d is the Cartan difference of a line: on its two classes
abbrev pub IsLineDifference : List (List ℕ) → ℕ → Classes → Line → Cochain → Type 0
IsLineDifference facets p classes l d = IsCartanDifference facets p l.a l.b l.n (class_at classes l.a l.i) (class_at classes l.b l.j) d

-- the degree of the two sides of a line
abbrev pub line_degree : ℕ → Line → ℕ
line_degree p l = target_degree p (l.a + l.b) (cartan_op p l.n)

-- the answer of a line is that for its difference
pub record IsVerdict (detailed : Bool) (facets : List (List ℕ)) (p : ℕ) (classes : Classes) (line : Line) (answer : CartanAnswer) : Type 0 where
  pub difference : Cochain
  pub is_difference : IsLineDifference facets p classes line difference
  pub is_answer : IsAnswer detailed facets (line_degree p line) p (classes_in classes (line_degree p line)) difference answer
