-- What the eight conditions ask of each line of a certificate.
use Rattle.std.specs.Prelude.{◌≡◌, ℕ, ◌+◌, ◌^◌, ◌<◌, ◌≤◌, true, false, List, ◌++◌, map, length, slice_get, Some, None, zero, suc}
use Rattle.linear_law.specs.Names.{Congruent, Each, combination}
use Rattle.simplicial_law.specs.Names.{IsSimplex, AgreesOnSimplices, Chain, Cochain, IsCocycle, coboundary, pairing, cochain_of}
use Rattle.steenrod_law.specs.Names.{cup_product, pull_back}
use Rattle.complex_file.specs.Names.{facet_fault, has_name, end_fault, send_fault}
use Rattle.certificate_law.specs.{Types.{CartanAnswer, Yes, No, CartanPart, Column, OperationPart, PairColumn, ProductPart, ComplexPart, InducedPart, MapPart}, ListedDegrees.{HasNewLeast, IsCounted, IsOn, IsOnBelow, coboundaries_of, simplex_count}, Parts.{rank_in, sent_by}, Stated.{Stated, complex_opens, facet_stands, degree_opens, below_stands, class_stands, product_opens, product_column, operation_opens, operation_column, cartan_stands, complex_ends, map_opens, send_stands, induced_opens, induced_column, map_ends, finish}}
use Rattle.report_law.specs.Names.{IsOperation, boundary_coefficient, listed, blocks, induced_degrees, lines, products, IsLineDifference, class_at, line_degree, below_in, block_of, classes_of, line_of, number_pairs, numbers_of, op_of, product_of, ranks_of, passing_sum, sizes_of}

-- ---- 1: the blocks are those of a job

abbrev pub complex_names : List ComplexPart → List (List ℕ)
complex_names cs = map (λ c. c.name) cs

abbrev pub map_names : List MapPart → List (List ℕ)
map_names ms = map (λ m. m.name) ms

-- fewer than eight complexes stand before this one, and none has its name
pub record IsNewComplex (before : List ComplexPart) (c : ComplexPart) : Type 0 where
  pub few : length before < 8
  pub new : has_name (complex_names before) c.name ≡ false

-- fewer than eight maps stand before this one, no complex and no earlier map has its name, and its two complexes
-- are there
pub record IsNewMap (cs : List ComplexPart) (before : List MapPart) (m : MapPart) : Type 0 where
  pub few : length before < 8
  pub new : has_name (complex_names cs ++ map_names before) m.name ≡ false
  pub from : has_name (complex_names cs) m.from ≡ true
  pub to : has_name (complex_names cs) m.to ≡ true

abbrev pub IsBlockLine : Stated → Type 0
IsBlockLine (complex_opens before c) = IsNewComplex before c
IsBlockLine (facet_stands before f) = facet_fault before f ≡ None
IsBlockLine (map_opens cs before m) = IsNewMap cs before m
IsBlockLine (send_stands from to before s) = send_fault from.facets to.facets before s ≡ None
IsBlockLine (map_ends from to m) = end_fault from.facets to.facets m.sends ≡ None
IsBlockLine _ = Unit {0}

-- ---- 2: the coboundaries of the listed cochains

-- The coboundary of the cochain is not zero, and its least simplex is that of none of the earlier ones.
pub record IsNewCoboundary (c : ComplexPart) (n p : ℕ) (before : List Chain) (y : Chain) : Type 0 where
  pub on : IsOnBelow c.facets n y
  pub new : HasNewLeast c.facets n p (coboundaries_of p before) (coboundary p (cochain_of y))

-- the degrees that are listed are those in which the complex has simplices
pub record HasItsDegrees (c : ComplexPart) : Type 0 where
  pub inhabited : (n : ℕ) → n < length c.degrees → 0 < simplex_count c.facets n
  pub whole : (n : ℕ) → 0 < simplex_count c.facets n → n < length c.degrees

abbrev pub IsCoboundaryLine : ℕ → Stated → Type 0
IsCoboundaryLine p (below_stands c n before y) = IsNewCoboundary c n p before y
IsCoboundaryLine p (complex_ends c) = HasItsDegrees c
IsCoboundaryLine p _ = Unit {0}

-- ---- 3 and 4: the classes

pub record IsClosedClass (c : ComplexPart) (n p : ℕ) (z : Chain) : Type 0 where
  pub on : IsOn c.facets n z
  pub closed : IsCocycle c.facets n p (cochain_of z)

abbrev pub IsCocycleLine : ℕ → Stated → Type 0
IsCocycleLine p (class_stands c n before z) = IsClosedClass c n p z
IsCocycleLine p _ = Unit {0}

-- The class is not zero, and its least simplex is that of none of the earlier classes and listed coboundaries of its degree.
abbrev pub IsNewClass : ComplexPart → ℕ → ℕ → List Chain → Chain → Type 0
IsNewClass c n p before z =
    HasNewLeast c.facets n p (map cochain_of before ++ coboundaries_of p (below_in c n)) (cochain_of z)

abbrev pub IsClassLine : ℕ → Stated → Type 0
IsClassLine p (class_stands c n before z) = IsNewClass c n p before z
IsClassLine p _ = Unit {0}

-- ---- 5: counts, blocks, columns and the counted terms

-- the classes of the k-th column, and as many values as the rank of the target degree
pub record IsProductColumn (c : ComplexPart) (x : ProductPart) (k : ℕ) (y : PairColumn) : Type 0 where
  pub pair : slice_get (number_pairs (rank_in c x.a) (rank_in c x.b)) k ≡ Some (numbers_of y)
  pub size : length y.values ≡ rank_in c (x.a + x.b)

-- the k-th column of a matrix with this many columns and rows
pub record IsColumnAt (columns rows k : ℕ) (y : Column) : Type 0 where
  pub inside : k < columns
  pub size : length y.values ≡ rows

-- no block, no line and no column is missing
pub record IsComplexWhole (p : ℕ) (c : ComplexPart) : Type 0 where
  pub products : length (products (ranks_of c)) ≤ length c.products
  pub operations : length (blocks p (ranks_of c)) ≤ length c.operations
  pub cartans : length (lines p (ranks_of c)) ≤ length c.cartans
  pub product_columns : Each (λ x. length (number_pairs (rank_in c x.a) (rank_in c x.b)) ≤ length x.columns) c.products
  pub operation_columns : Each (λ x. rank_in c x.from ≤ length x.columns) c.operations

pub record IsMapWhole (from to : ComplexPart) (m : MapPart) : Type 0 where
  pub induced : length (induced_degrees (ranks_of from) (ranks_of to)) ≤ length m.induced
  pub columns : Each (λ x. rank_in to x.q ≤ length x.columns) m.induced

abbrev pub IsCountLine : ℕ → Stated → Type 0
IsCountLine p (degree_opens c n d) = IsCounted c.facets n d.below d.classes (below_in c (n + 1))
IsCountLine p (product_opens c k x) = slice_get (products (ranks_of c)) k ≡ Some (product_of x)
IsCountLine p (product_column c x k y) = IsProductColumn c x k y
IsCountLine p (operation_opens c k x) = slice_get (blocks p (ranks_of c)) k ≡ Some (block_of x)
IsCountLine p (operation_column c x k y) = IsColumnAt (rank_in c x.from) (rank_in c x.to) k y
IsCountLine p (cartan_stands c k x) = slice_get (lines p (ranks_of c)) k ≡ Some (line_of x)
IsCountLine p (complex_ends c) = IsComplexWhole p c
IsCountLine p (induced_opens from to k x) = slice_get (induced_degrees (ranks_of from) (ranks_of to)) k ≡ Some x.q
IsCountLine p (induced_column from to m x k y) = IsColumnAt (rank_in to x.q) (rank_in from x.q) k y
IsCountLine p (map_ends from to m) = IsMapWhole from to m
IsCountLine p (finish cs) = passing_sum p (10 ^ 12) (map (λ c. sizes_of c.facets c) cs) ≡ None
IsCountLine p _ = Unit {0}

-- ---- 6 and 7: columns

-- the sum of the values times the classes, plus the coboundary of the cochain under `with`
abbrev pub column_sum : ℕ → List Cochain → List ℕ → Chain → Cochain
column_sum p zs values primitive s = combination values zs s + coboundary p (cochain_of primitive) s

-- The product of the printed classes is that sum.
pub record IsRightProduct (c : ComplexPart) (p : ℕ) (x : ProductPart) (y : PairColumn) : Type 0 where
  pub on : IsOnBelow c.facets (x.a + x.b) y.primitive
  pub same : AgreesOnSimplices c.facets (x.a + x.b) p (cup_product p x.a x.b (class_at (classes_of c) x.a y.i) (class_at (classes_of c) x.b y.j))
      (column_sum p (listed c (x.a + x.b)) y.values y.primitive)

-- The operation on the printed class of column k, from 0, is that sum.
pub record IsRightOperation (c : ComplexPart) (p : ℕ) (x : OperationPart) (k : ℕ) (y : Column) : Type 0 where
  pub on : IsOnBelow c.facets x.to y.primitive
  pub same : IsOperation c.facets p (op_of x) x.from (class_at (classes_of c) x.from (k + 1))
      (column_sum p (listed c x.to) y.values y.primitive)

abbrev pub IsColumnLine : ℕ → Stated → Type 0
IsColumnLine p (product_column c x k y) = IsRightProduct c p x y
IsColumnLine p (operation_column c x k y) = IsRightOperation c p x k y
IsColumnLine p _ = Unit {0}

-- The pull-back of the printed class of column k is that sum.
pub record IsRightPullBack (from to : ComplexPart) (p : ℕ) (m : MapPart) (x : InducedPart) (k : ℕ) (y : Column) : Type 0 where
  pub on : IsOnBelow from.facets x.q y.primitive
  pub same : AgreesOnSimplices from.facets x.q p (pull_back (sent_by m) (class_at (classes_of to) x.q (k + 1)))
      (column_sum p (listed from x.q) y.values y.primitive)

abbrev pub IsInducedLine : ℕ → Stated → Type 0
IsInducedLine p (induced_column from to m x k y) = IsRightPullBack from to p m x k y
IsInducedLine p _ = Unit {0}

-- ---- 8: Cartan lines

-- the difference is the coboundary of the cochain
pub record IsRightYes (c : ComplexPart) (p : ℕ) (x : CartanPart) (primitive : Chain) : Type 0 where
  pub on : IsOnBelow c.facets (line_degree p (line_of x)) primitive
  pub difference : IsLineDifference c.facets p (classes_of c) (line_of x) (coboundary p (cochain_of primitive))

-- the chain has the degree of the difference and boundary zero, and the difference pairs with it to the value
pub record IsRightNo (c : ComplexPart) (p : ℕ) (x : CartanPart) (value : ℕ) (cycle : Chain) : Type 0 where
  pub on : IsOn c.facets (line_degree p (line_of x)) cycle
  pub closed : (m : ℕ) (s : List ℕ) → IsSimplex c.facets m s → Congruent p (boundary_coefficient p cycle s) 0
  pub difference : Cochain
  pub is_difference : IsLineDifference c.facets p (classes_of c) (line_of x) difference
  pub pairs : Congruent p (pairing difference cycle) value

abbrev pub IsRightAnswer : ComplexPart → ℕ → CartanPart → CartanAnswer → Type 0
IsRightAnswer c p x (Yes primitive) = IsRightYes c p x primitive
IsRightAnswer c p x (No value cycle) = IsRightNo c p x value cycle

abbrev pub IsCartanLine : ℕ → Stated → Type 0
IsCartanLine p (cartan_stands c k x) = IsRightAnswer c p x x.answer
IsCartanLine p _ = Unit {0}

-- ---- the eight conditions, by their numbers

abbrev pub Asks : ℕ → ℕ → Stated → Type 0
Asks p zero s = Unit {0}
Asks p (suc zero) s = IsBlockLine s
Asks p (suc (suc zero)) s = IsCoboundaryLine p s
Asks p (suc (suc (suc zero))) s = IsCocycleLine p s
Asks p (suc (suc (suc (suc zero)))) s = IsClassLine p s
Asks p (suc (suc (suc (suc (suc zero))))) s = IsCountLine p s
Asks p (suc (suc (suc (suc (suc (suc zero)))))) s = IsColumnLine p s
Asks p (suc (suc (suc (suc (suc (suc (suc zero))))))) s = IsInducedLine p s
Asks p (suc (suc (suc (suc (suc (suc (suc (suc zero)))))))) s = IsCartanLine p s
Asks p _ s = Unit {0}
