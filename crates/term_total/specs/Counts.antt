-- What is charged for the blocks and lines of complexes.
use Rattle.std.specs.{Prelude.{◌≡◌, ℕ, ◌+◌, ◌*◌, ◌≤◌, ◌^◌, List, [], ◌∷◌, ◌++◌, flat_map, get_or, length, map, IsSome, IsTrue}, List.filter}
use Rattle.linear_law.specs.Names.{sum_over, Among, Each}
use Rattle.report.specs.declared.plan.{Block.Block, Line.Line, Op.Op, Product.Product, Sizes.Sizes}
use Rattle.report_law.specs.Names.{blocks, cartan_op, cartan_pairs, degrees, element_degree, is_defined, lines, lines_of_pair, target_degree, may_surjections}
use Rattle.interval_cut_law.specs.Names.{live_cut_count}
use Rattle.table_reduction_law.specs.Names.{candidate_count}
use Rattle.may_elements.specs.{Counted.cut_off, Stored.{Parts, stored_at}}
use Rattle.term_total.specs.{Charges.repeated, LiveParts.{is_class_pair, is_live_line, product_of}, declared.counts.Counted.Counted, declared.plan.Addend.Addend, declared.plan.Applied.Applied, declared.plan.Row.Row}

-- the sizes of a complex of at most 16 degrees
pub record IsPart (z : Sizes) : Type 0 where
  pub same : length z.simplices ≡ length z.ranks
  pub few : length z.ranks ≤ 16

-- ---- what rows count

-- the cuts that are live for q, over the surjections of the May element of degree d
abbrev pub live_total : ℕ → ℕ → ℕ → ℕ
live_total p d q = sum_over (λ u. live_cut_count q p u) (may_surjections p d)

-- what an operation counts: its live cuts on each simplex of its target degree
abbrev pub operation_number : ℕ → Applied → ℕ
operation_number p x = x.simplices * live_total p x.element x.degree

abbrev pub addend_number : ℕ → Addend → ℕ
addend_number p y = y.factor * sum_over (operation_number p) y.operations

abbrev pub row_numbers : ℕ → Row → List ℕ
row_numbers p r = repeated r.times (map (addend_number p) r.addends)

-- the degrees of the May elements of the operations of a row, and of rows
abbrev pub row_elements : Row → List ℕ
row_elements r = flat_map (λ (y : Addend). map (λ x. x.element) y.operations) r.addends

abbrev pub elements_in : List Row → List ℕ
elements_in rows = flat_map row_elements rows

-- ---- the rows of blocks and lines

abbrev pub applied_to : ℕ → List ℕ → Op → ℕ → Applied
applied_to p simplices op q = record { element = element_degree p q op; degree = q; simplices = get_or simplices (target_degree p q op) 0 }

abbrev pub block_addend : ℕ → Sizes → Block → Addend
block_addend p z x = record { factor = get_or z.ranks x.from 0; operations = applied_to p z.simplices x.op x.from ∷ [] }

abbrev pub block_row : ℕ → Sizes → Row
block_row p z = record { times = 1; addends = map (block_addend p z) (blocks p z.ranks) }

-- the operation of the product of a line, and those of the products that it is compared with
abbrev pub pair_operations : ℕ → List ℕ → Line → ℕ × ℕ → List Applied
pair_operations p simplices l e = applied_to p simplices (cartan_op p e.0) l.a ∷ applied_to p simplices (cartan_op p e.1) l.b ∷ []

abbrev pub line_operations : ℕ → List ℕ → Line → List Applied
line_operations p simplices l = applied_to p simplices (cartan_op p l.n) (l.a + l.b) ∷ flat_map (pair_operations p simplices l) (cartan_pairs p l.a l.b l.n)

abbrev pub line_addend : ℕ → List ℕ → Line → Addend
line_addend p simplices l = record { factor = 1; operations = line_operations p simplices l }

-- the pairs of degrees that have classes, in order
abbrev pub class_pairs : List ℕ → List Product
class_pairs ranks = filter (is_class_pair ranks) (flat_map (λ a. map (product_of a) (degrees ranks)) (degrees ranks))

-- the live lines of the first classes of two degrees
abbrev pub pair_lines : ℕ → List ℕ → Product → List Line
pair_lines p ranks x = filter (is_live_line p ranks) (lines_of_pair x.a x.b 1 1)

-- the lines of two degrees: they count the same for each two classes
abbrev pub pair_row : ℕ → Sizes → Product → Row
pair_row p z x = record { times = get_or z.ranks x.a 0 * get_or z.ranks x.b 0; addends = map (line_addend p z.simplices) (pair_lines p z.ranks x) }

abbrev pub part_rows : ℕ → Sizes → List Row
part_rows p z = block_row p z ∷ map (pair_row p z) (class_pairs z.ranks)

abbrev pub plan : ℕ → List Sizes → List Row
plan p zs = flat_map (part_rows p) zs

-- ---- what operations use

-- an operation on degree q uses the part of the May element of this degree that cochains of degree q see
abbrev pub use_of : ℕ → Op → ℕ → ℕ × ℕ
use_of p op q = (element_degree p q op, q)

abbrev pub line_uses : ℕ → Line → List (ℕ × ℕ)
line_uses p l = use_of p (cartan_op p l.n) (l.a + l.b) ∷ flat_map (λ e. use_of p (cartan_op p e.0) l.a ∷ use_of p (cartan_op p e.1) l.b ∷ []) (cartan_pairs p l.a l.b l.n)

-- what all blocks and lines of a complex use
abbrev pub complex_uses : ℕ → Sizes → List (ℕ × ℕ)
complex_uses p z = map (λ x. use_of p x.op x.from) (blocks p z.ranks) ++ flat_map (line_uses p) (lines p z.ranks)

abbrev pub uses : ℕ → List Sizes → List (ℕ × ℕ)
uses p zs = flat_map (complex_uses p) zs

-- ---- what is known of them

-- the operation of a block is defined
pub record IsBlock (p : ℕ) (x : Block) : Type 0 where
  pub defined : IsTrue (is_defined p x.from x.op)
  pub low : x.from ≤ 15

-- the operation of a line is defined
pub record IsLine (p : ℕ) (l : Line) : Type 0 where
  pub defined : IsTrue (is_defined p (l.a + l.b) (cartan_op p l.n))
  pub low : l.a + l.b ≤ 15

-- both operations of a pair are defined
abbrev pub IsPair : ℕ → ℕ → ℕ → ℕ × ℕ → Type 0
IsPair p a b e = IsTrue (is_defined p a (cartan_op p e.0)) × IsTrue (is_defined p b (cartan_op p e.1))

-- what operations on degree q see of the May element of degree d is stored
abbrev pub IsThere : Parts → ℕ → ℕ → Type 0
IsThere table d q = IsSome (stored_at d q table)

-- all that is stored in the one table is stored in the other
abbrev pub Keeps : Parts → Parts → Type 0
Keeps old new = (d q : ℕ) → IsThere old d q → IsThere new d q

-- the May element of degree d can be made
abbrev pub CanBeMade : ℕ → ℕ → Type 0
CanBeMade p d = (d ≤ 60) × (candidate_count p d ≤ 10 ^ 12)

-- the live cuts of the operation can be counted, where Q holds of the degrees of its May element and of its cochains
pub record IsReady (p : ℕ) (Q : ℕ → ℕ → Type 0) (x : Applied) : Type 0 where
  pub low : x.degree ≤ 15
  pub most : x.element ≤ p * x.degree
  pub there : Q x.element x.degree

abbrev pub AreReady : ℕ → (ℕ → ℕ → Type 0) → Row → Type 0
AreReady p Q r = Each (λ (y : Addend). Each (IsReady p Q) y.operations) r.addends

-- the counts are those of their degrees
abbrev pub AreCounted : ℕ → List Counted → Type 0
AreCounted p cs = (c : Counted) → Among c cs → c.count ≡ cut_off (live_total p c.element c.degree)
