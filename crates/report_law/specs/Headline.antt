-- The headline: what a report promises of its job, in each form.
use Rattle.std.specs.{Prelude.{◌≡◌, IsTrue, ℕ, ◌+◌, ◌*◌, ◌<◌, zero, suc, true, List, [], map, length}, List.AllZip}
use Rattle.linear_law.specs.Names.{Congruent, sum_over, Each, matrix_times}
use Rattle.simplicial_law.specs.Names.{IsSimplex, AgreesOnSimplices, Chain, Cochain, HasCoordinates, IsCoboundary, IsCocycle, IsCohomologyBasis, boundary, coboundary, pairing, unit_cochain, AreTerms, cochain_of}
use Rattle.steenrod_law.specs.Names.{coefficient_products, cup_product, pull_back}
use Rattle.complex_file.specs.Names.{Spelled, facets_at, image}
use Rattle.report_law.specs.{Types.{ComplexBlock, MapBlock, CartanAnswer, Yes, No, CartanPart, OperationPart, ProductPart, ComplexPart, Form, Report, MapPart, Op}, Differences.IsOperation, Live.{is_defined, target_degree}, Matrices.{IsLineDifference, cochains_in, line_degree}, Parts.{classes_of, induced_matrix, line_of, matrix_of, op_of, operation_matrix, part_at}}
use Rattle.report.specs.Names.{has_details, has_tables}

-- the cochains of the classes of degree n that are listed of a complex
abbrev pub listed : ComplexPart → ℕ → List Cochain
listed c n = cochains_in (classes_of c) n

-- ---- bases

-- Each degree with a simplex is listed, and its printed cocycles are a basis of its cohomology.
pub record BasesPromise (facets : List (List ℕ)) (p : ℕ) (c : ComplexPart) : Type 0 where
  pub whole : (n : ℕ) (s : List ℕ) → IsSimplex facets n s → n < length c.degrees
  pub basis : (n : ℕ) → n < length c.degrees → IsCohomologyBasis facets n p (listed c n)

-- ---- operations and products

-- A printed operation matrix: for every cocycle z, whichever representative of its class it is, the operation on z is a
-- cocycle, and its coordinates are the matrix times those of z.
abbrev pub OperationPromise : List (List ℕ) → ℕ → ComplexPart → OperationPart → Type 0
OperationPromise facets p c o = (z b : Cochain) (cs : List ℕ) → IsCocycle facets o.from p z →
    HasCoordinates facets o.from p (listed c o.from) z cs → IsOperation facets p (op_of o) o.from z b →
    IsCocycle facets o.to p b
    × HasCoordinates facets o.to p (listed c o.to) b (matrix_times p (length (listed c o.to)) (matrix_of o.columns) cs)

-- A printed block of products: for all cocycles z and w the product is a cocycle, and its coordinates are the matrix
-- times the products of their coordinates.
abbrev pub ProductPromise : List (List ℕ) → ℕ → ComplexPart → ProductPart → Type 0
ProductPromise facets p c x = (z w : Cochain) (cs ds : List ℕ) → IsCocycle facets x.a p z → IsCocycle facets x.b p w →
    HasCoordinates facets x.a p (listed c x.a) z cs → HasCoordinates facets x.b p (listed c x.b) w ds →
    IsCocycle facets (x.a + x.b) p (cup_product p x.a x.b z w)
    × HasCoordinates facets (x.a + x.b) p (listed c (x.a + x.b)) (cup_product p x.a x.b z w)
    (matrix_times p (length (listed c (x.a + x.b))) (map (λ y. y.values) x.columns) (coefficient_products cs ds))

-- ---- Cartan lines

-- terms of a cochain of one degree less than n; none for degree 0
abbrev pub AreTermsBelow : List (List ℕ) → ℕ → ℕ → Chain → Type 0
AreTermsBelow facets zero p terms = terms ≡ []
AreTermsBelow facets (suc n) p terms = AreTerms facets n p terms

-- the printed cochain has the coboundary d, of degree n
pub record IsBoundedBy (facets : List (List ℕ)) (n p : ℕ) (d : Cochain) (terms : Chain) : Type 0 where
  pub below : AreTermsBelow facets n p terms
  pub same : AgreesOnSimplices facets n p (coboundary p (cochain_of terms)) d

-- the coefficient of the simplex t in the boundary of a chain
abbrev pub boundary_coefficient : ℕ → Chain → List ℕ → ℕ
boundary_coefficient p terms t = sum_over (λ c. c.0 * pairing (unit_cochain t) (boundary p c.1)) terms

-- a cycle of degree n: its boundary is zero
pub record IsCycle (facets : List (List ℕ)) (n p : ℕ) (terms : Chain) : Type 0 where
  pub chain : AreTerms facets n p terms
  pub closed : (m : ℕ) (t : List ℕ) → IsSimplex facets m t → Congruent p (boundary_coefficient p terms t) 0

-- the printed cycle of degree n pairs with d to the value
pub record IsDetectedBy (facets : List (List ℕ)) (n p : ℕ) (d : Cochain) (value : ℕ) (terms : Chain) : Type 0 where
  pub cycle : IsCycle facets n p terms
  pub pairs : Congruent p (pairing d terms) value

-- What an answer says of the difference d of the two sides, of degree n: a yes that it is the coboundary of a cochain, and
-- a no that it is of none. In a certificate such a cochain stands under the yes, and under the no a cycle with which d
-- pairs to the printed value, which is not 0.
abbrev pub Says : Form → List (List ℕ) → ℕ → ℕ → Cochain → CartanAnswer → Type 0
Says form facets n p d (Yes primitive) = IsCoboundary facets n p d × (IsTrue (has_details form) → IsBoundedBy facets n p d primitive)
Says form facets n p d (No value cycle) = (IsCoboundary facets n p d → ⊥) × (0 < value) × (value < p)
    × (IsTrue (has_details form) → IsDetectedBy facets n p d value cycle)

abbrev pub CartanPromise : Form → List (List ℕ) → ℕ → ComplexPart → CartanPart → Type 0
CartanPromise form facets p c l = (d : Cochain) → IsLineDifference facets p (classes_of c) (line_of l) d →
    Says form facets (line_degree p (line_of l)) p d l.answer

-- ---- one complex, and one map

pub record TablesPromise (form : Form) (facets : List (List ℕ)) (p : ℕ) (c : ComplexPart) : Type 0 where
  pub products : Each (ProductPromise facets p c) c.products
  pub operations : Each (OperationPromise facets p c) c.operations
  pub cartans : Each (CartanPromise form facets p c) c.cartans

pub record ComplexPromise (form : Form) (p : ℕ) (block : ComplexBlock) (c : ComplexPart) : Type 0 where
  pub bases : BasesPromise block.facets p c
  pub tables : IsTrue (has_tables form) → TablesPromise form block.facets p c

-- the product of two matrices, of which the first has h rows
abbrev pub matrix_product : ℕ → ℕ → List (List ℕ) → List (List ℕ) → List (List ℕ)
matrix_product p h left right = map (λ column. matrix_times p h left column) right

-- For a map f and each operation that is defined on a degree, the induced matrix times the matrix of the operation on the
-- target is the matrix of the operation on the source times the induced matrix. For every cocycle z of the target the
-- coordinates of its pull-back are the induced matrix times those of z.
pub record InducedPromise (f : ℕ → ℕ) (from_facets to_facets : List (List ℕ)) (p : ℕ) (from to : ComplexPart) (m : MapPart) : Type 0 where
  pub commute : (op : Op) (q : ℕ) → is_defined p q op ≡ true →
      matrix_product p (length (listed from (target_degree p q op))) (induced_matrix to m (target_degree p q op)) (operation_matrix to op q)
      ≡ matrix_product p (length (listed from (target_degree p q op))) (operation_matrix from op q) (induced_matrix to m q)
  pub carries : (q : ℕ) (z : Cochain) (cs : List ℕ) → IsCocycle to_facets q p z → HasCoordinates to_facets q p (listed to q) z cs →
      HasCoordinates from_facets q p (listed from q) (pull_back f z) (matrix_times p (length (listed from q)) (induced_matrix to m q) cs)

abbrev pub MapPromise : Spelled → List ComplexPart → MapBlock → MapPart → Type 0
MapPromise job parts block m = InducedPromise (image block.sends) (facets_at job.complexes block.from) (facets_at job.complexes block.to)
    job.prime (part_at parts block.from) (part_at parts block.to) m

-- ---- the headline

-- The printed cocycles are a basis of each complex's cohomology. Where the form has them, each printed operation matrix,
-- and each printed block of products, carries the coordinates of every cocycle; induced matrices commute with operation
-- matrices; and each Cartan answer is right, which in a certificate the chain under it shows.
pub record Headline (form : Form) (job : Spelled) (report : Report) : Type 0 where
  pub complexes : AllZip (ComplexPromise form job.prime) job.complexes report.complexes
  pub maps : IsTrue (has_tables form) → AllZip (MapPromise job report.complexes) job.maps report.maps
