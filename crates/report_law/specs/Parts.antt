-- What a report lists: classes, ranks, headings and matrices.
use Rattle.std.specs.Prelude.{ℕ, Bool, false, ◌&&◌, ◌==◌, if◌then◌else◌, List, [], ◌∷◌, flat_map, map, length, get_or}
use Rattle.simplicial_law.specs.Names.{Chain}
use Rattle.steenrod_law.specs.Names.{copies}
use Rattle.signed_sum.specs.Names.{numbers_from}
use Rattle.report_law.specs.{Types.{CartanPart, Column, OpWord, OperationPart, PairColumn, ProductPart, ComplexPart, InducedPart, MapPart, Block, Line, Op, Square, Product, Power, BocksteinPower}, Matrices.{Classes, classes_in, ranks}}
use Rattle.report.specs.declared.columns.OpWord.TheVariants as word

-- the classes by degree, and the ranks
abbrev pub classes_of : ComplexPart → Classes
classes_of c = map (λ d. d.classes) c.degrees

abbrev pub ranks_of : ComplexPart → List ℕ
ranks_of c = ranks (classes_of c)

-- the terms of the primitives of degree n - 1
abbrev pub below_in : ComplexPart → ℕ → List Chain
below_in c n = get_or (map (λ d. d.below) c.degrees) n []

-- what is listed of the complex at a place
abbrev pub part_at : List ComplexPart → ℕ → ComplexPart
part_at parts k = get_or parts k (record { name = []; facets = []; degrees = []; products = []; operations = []; cartans = [] })

-- ---- which blocks and lines stand in the report

abbrev pub op_named : OpWord → ℕ → Op
op_named word.Sq k = Square k
op_named word.Power s = Power s
op_named word.BocksteinPower s = BocksteinPower s

abbrev pub op_of : OperationPart → Op
op_of o = op_named o.word o.number

abbrev pub product_of : ProductPart → Product
product_of x = record { a = x.a; b = x.b }

abbrev pub block_of : OperationPart → Block
block_of o = record { op = op_of o; from = o.from; to = o.to }

abbrev pub line_of : CartanPart → Line
line_of l = record { a = l.a; i = l.i; b = l.b; j = l.j; n = l.n }

-- the pairs of the numbers 1 to h and 1 to k, by the first and then the second
abbrev pub number_pairs : ℕ → ℕ → List (ℕ × ℕ)
number_pairs h k = flat_map (λ i. map (λ j. (i, j)) (numbers_from 1 k)) (numbers_from 1 h)

-- the two numbers of a column of products, and the column without them
abbrev pub numbers_of : PairColumn → ℕ × ℕ
numbers_of c = (c.i, c.j)

abbrev pub unnumbered : PairColumn → Column
unnumbered c = record { values = c.values; primitive = c.primitive }

-- ---- matrices, by their columns

abbrev pub matrix_of : List Column → List (List ℕ)
matrix_of columns = map (λ c. c.values) columns

abbrev pub is_same_op : Op → Op → Bool
is_same_op (Square j) (Square k) = j == k
is_same_op (Power s) (Power t) = s == t
is_same_op (BocksteinPower s) (BocksteinPower t) = s == t
is_same_op _ _ = false

-- the matrix of the operation on degree q among these; `none` where it is not among them
abbrev pub operation_matrix_among : List (List ℕ) → Op → ℕ → List OperationPart → List (List ℕ)
operation_matrix_among none op q [] = none
operation_matrix_among none op q (o ∷ os) = if o.from == q && is_same_op op (op_of o) then matrix_of o.columns else operation_matrix_among none op q os

abbrev pub induced_matrix_among : List (List ℕ) → ℕ → List InducedPart → List (List ℕ)
induced_matrix_among none q [] = none
induced_matrix_among none q (x ∷ xs) = if x.q == q then matrix_of x.columns else induced_matrix_among none q xs

-- The matrix of an operation on degree q, with a column for each class of degree q. A matrix that is not printed has
-- no rows, or, where degree q has no class, no columns.
abbrev pub operation_matrix : ComplexPart → Op → ℕ → List (List ℕ)
operation_matrix c op q = operation_matrix_among (copies (length (classes_in (classes_of c) q)) []) op q c.operations

-- so for the matrix in degree q of a map to the complex `to`, with a column for each class of `to`
abbrev pub induced_matrix : ComplexPart → MapPart → ℕ → List (List ℕ)
induced_matrix to m q = induced_matrix_among (copies (length (classes_in (classes_of to) q)) []) q m.induced
