-- The May elements of the rows of a job are those of the job.
use Rattle.std.{proofs.Common.{◌≡◌, inl, inr, ℕ, zero, suc, ◌*◌, ◌<◌, arith, refl, sym, subst, List, [], map, get_or, flat_map, fold, ltb-true}, specs.BTreeSet.insert_key, specs.FinMap.nat_cmp-IsAntisymmetric, specs.Ordering.nat_cmp, proofs.lemmas.Bool.and_parts, proofs.lemmas.Cmp.nat_cmp_total}
use Rattle.linear_law.{specs.Names.{Among, Each}, proofs.Names.{among_left, among_right, each_among, each_itself, each_map, each_of_map}}
use Rattle.report.specs.declared.plan.{Product.Product, Sizes.Sizes}
use Rattle.report_law.specs.Names.{blocks, degrees, has_class, lines, complex_elements, elements}
use Rattle.term_total.{specs.Names.{AreReady, IsReady, repeated, class_pairs, complex_uses, elements_in, part_rows, plan, is_class_pair, product_of, uses, Addend, Applied}, proofs.KeyLemmas.{among-split, flat-among, flat-fewer, flat-more, fold-same}, proofs.LineLemmas.lines-by-pairs, proofs.PlanLemmas.{block_values, complex_values, line_values, part-values, plan-values, row_values, short_values, values_in}, proofs.ReadyLemmas.{each-flat, each-passed}}

class-times : (ranks : List ℕ) → Each (λ (x : Product). 0 < get_or ranks x.a 0 * get_or ranks x.b 0) (class_pairs ranks)
class-times ranks =
    let all : List Product = flat_map (λ a. map (product_of a) (degrees ranks)) (degrees ranks) in
    each-passed (λ (x : Product). Among x all) (λ (x : Product). 0 < get_or ranks x.a 0 * get_or ranks x.b 0) (is_class_pair ranks) all
    (λ x m e.
    let both = and_parts (has_class ranks x.a) (has_class ranks x.b) e in
    positive (get_or ranks x.a 0) (get_or ranks x.b 0) (ltb-true 0 (get_or ranks x.a 0) both.0) (ltb-true 0 (get_or ranks x.b 0) both.1))
    (each_itself all)
  where
    positive : (a b : ℕ) → 0 < a → 0 < b → 0 < a * b
    positive zero b h k = absurd (omega arith)
    positive (suc a) zero h k = absurd (omega arith)
    positive (suc a) (suc b) h k = omega arith

-- what stands in the rows of a complex stands in the complex, and conversely
module _ {X : Type 0} (f : ℕ → ℕ → X) (p : ℕ) (t : X) (z : Sizes) where
  abbrev from_blocks : List X
  from_blocks = block_values f p (blocks p z.ranks)

  abbrev from_lines : List X
  from_lines = flat_map (line_values f p) (lines p z.ranks)

  abbrev short : List X
  short = flat_map (short_values f p z.ranks) (class_pairs z.ranks)

  abbrev times : Product → ℕ
  times x = get_or z.ranks x.a 0 * get_or z.ranks x.b 0

  by-lines : from_lines ≡ flat_map (λ x. repeated (times x) (short_values f p z.ranks x)) (class_pairs z.ranks)
  by-lines = lines-by-pairs p z.ranks (line_values f p) (λ a b i j n. refl)

  value-in-rows : Among t (complex_values f p z) → Among t (values_in f p (part_rows p z))
  value-in-rows m = subst (Among t) (sym (part-values f p z)) (elim (among-split t from_blocks from_lines m) [
    | inl l ↦ among_left t from_blocks short l
    | inr r ↦ among_right t from_blocks short (flat-fewer t times (short_values f p z.ranks) (class_pairs z.ranks) (subst (Among t) by-lines r))
  ])

  value-in-complex : Among t (values_in f p (part_rows p z)) → Among t (complex_values f p z)
  value-in-complex m = elim (among-split t from_blocks short (subst (Among t) (part-values f p z) m)) [
    | inl l ↦ among_left t from_blocks from_lines l
    | inr r ↦ among_right t from_blocks from_lines (subst (Among t) (sym by-lines) (flat-more t times (short_values f p z.ranks) (class_pairs z.ranks) (class-times z.ranks) r))
  ]

-- the degree of the May element alone, and with that of the cochains
abbrev element_only : ℕ → ℕ → ℕ
element_only d q = d

abbrev both_degrees : ℕ → ℕ → ℕ × ℕ
both_degrees d q = (d, q)

-- the degrees of all rows
pub elements-are : (p : ℕ) (zs : List Sizes) → fold (insert_key nat_cmp) [] (elements_in (plan p zs)) ≡ elements p zs
elements-are p zs =
    subst (λ ds. fold (insert_key nat_cmp) [] ds ≡ elements p zs) (sym (plan-values element_only p zs))
    (fold-same nat_cmp nat_cmp_total nat_cmp-IsAntisymmetric (flat_map (λ z. elements_in (part_rows p z)) zs) (flat_map (complex_elements p) zs)
    (λ t m. flat-among t (λ z. elements_in (part_rows p z)) (complex_elements p) zs (value-in-complex element_only p t) m)
    (λ t m. flat-among t (complex_elements p) (λ z. elements_in (part_rows p z)) zs (value-in-rows element_only p t) m))

-- what is known of the operations of the rows is known of all that is used
pub each-use : (p : ℕ) (Q : ℕ → ℕ → Type 0) (zs : List Sizes) → Each (AreReady p Q) (plan p zs) → Each (λ u. Q u.0 u.1) (uses p zs)
each-use p Q zs h =
    each_map (λ u m. each_among (λ v. Q v.0 v.1) u (values_in both_degrees p (plan p zs)) in-rows
    (subst (Among u) (sym (plan-values both_degrees p zs)) (flat-among u (complex_uses p) (λ z. values_in both_degrees p (part_rows p z)) zs (value-in-rows both_degrees p u) m)))
    (uses p zs) (each_itself (uses p zs))
  where
    in-rows : Each (λ u. Q u.0 u.1) (values_in both_degrees p (plan p zs))
    in-rows = each-flat (AreReady p Q) (λ u. Q u.0 u.1) (row_values both_degrees p) (plan p zs)
        (λ r k. each-flat (λ (y : Addend). Each (IsReady p Q) y.operations) (λ u. Q u.0 u.1) (λ (y : Addend). map (λ (x : Applied). both_degrees x.element x.degree) y.operations) r.addends
        (λ y m. each_of_map (λ u. Q u.0 u.1) (λ (x : Applied). both_degrees x.element x.degree) y.operations (each_map (λ x i. i.there) y.operations m)) k) h
