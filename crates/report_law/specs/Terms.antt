-- Counted terms: what the blocks and lines of a job count, in order, and the limit on their sum.
use Rattle.std.specs.{Prelude.{◌≡◌, ℕ, ◌+◌, ◌*◌, ◌^◌, min, not, cond, nat_lt, if◌then◌else◌, List, [], ◌∷◌, ◌++◌, flat_map, fold, map, length, get_or, Some, None, ℤ, pos}, declared.option.Option.Option, List.{AllZip, filter}, BTreeSet.insert_key, Ordering.nat_cmp}
use Rattle.signed_sum.specs.Names.{is_same_list, numbers_from, is_zero, value_at}
use Rattle.linear_law.specs.Names.{sum_over}
use Rattle.simplicial_law.specs.{Names.{of_degree, simplex_cmp}, ListedSimplices.simplices}
use Rattle.interval_cut_law.specs.Names.{live_cut_count}
use Rattle.table_reduction_law.specs.Names.{candidate_count, may_element}
use Rattle.complex_file.specs.Names.{Spelled}
use Rattle.report_law.specs.{Types.{ComplexPart, Block, Line, Op, Sizes}, Live.{blocks, cartan_op, cartan_pairs, element_degree, lines, target_degree}, Matrices.{AreClasses, Classes, ranks}, Parts.ranks_of}

-- ---- one operation

-- the coefficient of a surjection in a sum
abbrev pub coefficient : List ℕ → List (List ℕ × ℤ) → ℤ
coefficient u x = value_at (λ v. cond (is_same_list u v) (pos 1) (pos 0)) x

-- the surjections with a coefficient that is not 0 in the May element of degree d, each once and in order
abbrev pub may_surjections : ℕ → ℕ → List (List ℕ)
may_surjections p d =
    filter (λ u. not (is_zero (coefficient u (may_element p d)))) (fold (insert_key simplex_cmp) [] (map (λ t. t.0) (may_element p d)))

-- the cuts that are live for q, over the surjections of the May element of the operation on degree q
abbrev pub live_cuts : ℕ → Op → ℕ → ℕ
live_cuts p op q = sum_over (λ u. live_cut_count q p u) (may_surjections p (element_degree p q op))

-- ---- one complex

-- what an operation on degree q counts: its live cuts on each simplex of the target degree
abbrev pub operation_terms : ℕ → Sizes → Op → ℕ → ℕ
operation_terms p z op q = get_or z.simplices (target_degree p q op) 0 * live_cuts p op q

-- what a block counts: that for each class
abbrev pub block_terms : ℕ → Sizes → Block → ℕ
block_terms p z x = get_or z.ranks x.from 0 * operation_terms p z x.op x.from

-- what a Cartan line counts: all operations of its two sides
abbrev pub line_terms : ℕ → Sizes → Line → ℕ
line_terms p z l = operation_terms p z (cartan_op p l.n) (l.a + l.b)
    + sum_over (λ e. operation_terms p z (cartan_op p e.0) l.a + operation_terms p z (cartan_op p e.1) l.b) (cartan_pairs p l.a l.b l.n)

-- of the blocks of a complex, and then of its lines
abbrev pub complex_terms : ℕ → Sizes → List ℕ
complex_terms p z = map (block_terms p z) (blocks p z.ranks) ++ map (line_terms p z) (lines p z.ranks)

-- ---- one job

-- the degrees of the May elements of the operations of a line
abbrev pub line_elements : ℕ → Line → List ℕ
line_elements p l = element_degree p (l.a + l.b) (cartan_op p l.n)
    ∷ flat_map (λ e. element_degree p l.a (cartan_op p e.0) ∷ element_degree p l.b (cartan_op p e.1) ∷ []) (cartan_pairs p l.a l.b l.n)

-- the degrees of the May elements of all blocks and lines of a complex
abbrev pub complex_elements : ℕ → Sizes → List ℕ
complex_elements p z = map (λ x. element_degree p x.from x.op) (blocks p z.ranks) ++ flat_map (line_elements p) (lines p z.ranks)

-- those of all complexes, each once and ascending
abbrev pub elements : ℕ → List Sizes → List ℕ
elements p zs = fold (insert_key nat_cmp) [] (flat_map (complex_elements p) zs)

-- The numbers that are summed, in order: the lists that each May element is made from, and then complex by complex the
-- terms of the blocks and of the lines.
abbrev pub addends : ℕ → List Sizes → List ℕ
addends p zs = map (candidate_count p) (elements p zs) ++ flat_map (complex_terms p) zs

-- a count as it is printed: cut off at 10^15
abbrev pub printed_count : ℕ → ℕ
printed_count n = min n (10 ^ 15)

-- the first sum of `sum` and the numbers one after the other that passes the limit, as it is printed; None where all
-- together do not
abbrev pub first_past : ℕ → ℕ → List ℕ → Option ℕ
first_past limit sum [] = None
first_past limit sum (n ∷ ns) = if nat_lt limit (sum + n) then Some (printed_count (sum + n)) else first_past limit (sum + n) ns

-- the running sum of all that is counted that first passes the limit
abbrev pub passing_sum : ℕ → ℕ → List Sizes → Option ℕ
passing_sum p limit zs = first_past limit 0 (addends p zs)

-- how many simplices each of the first k degrees has
abbrev pub simplex_counts : List (List ℕ) → ℕ → List ℕ
simplex_counts facets k = map (λ n. length (of_degree n (simplices facets))) (numbers_from 0 k)

-- These are the sizes of a complex: a rank is the number of the canonical classes.
pub record AreSizes (p : ℕ) (facets : List (List ℕ)) (z : Sizes) : Type 0 where
  pub classes : Classes
  pub are : AreClasses facets p classes
  pub ranks_are : z.ranks ≡ ranks classes
  pub simplices_are : z.simplices ≡ simplex_counts facets (length classes)

-- the sizes of the complex with these facets of which c is listed
abbrev pub sizes_of : List (List ℕ) → ComplexPart → Sizes
sizes_of facets c = record { simplices = simplex_counts facets (length c.degrees); ranks = ranks_of c }

-- ---- the limit

-- the sizes of the complexes of a job
abbrev pub AreJobSizes : Spelled → List Sizes → Type 0
AreJobSizes job zs = AllZip (λ block z. AreSizes job.prime block.facets z) job.complexes zs

-- The counted terms of the job do not pass the limit.
pub record IsWithinLimit (job : Spelled) (limit : ℕ) : Type 0 where
  pub sizes : List Sizes
  pub are : AreJobSizes job sizes
  pub within : passing_sum job.prime limit sizes ≡ None

-- The counted terms of the job pass the limit, first with this sum.
pub record PassesLimit (job : Spelled) (limit count : ℕ) : Type 0 where
  pub sizes : List Sizes
  pub are : AreJobSizes job sizes
  pub passes : passing_sum job.prime limit sizes ≡ Some count
