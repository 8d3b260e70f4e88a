-- How many lines are left of a section.
use Rattle.std.proofs.{Common.{◌≡◌, ℕ, zero, suc, ◌+◌, ◌^◌, ◌<◌, ◌≤◌, sym, ◌∙◌, ap, ap₂, subst, arith, true, false, if◌then◌else◌, map, Ok, Err, ◌↔◌, Bool, IsTrue, List, [], ◌∷◌, ◌++◌, length, get_or, slice_get, drop, sum_by, Some, Result, length-append}, lemmas.List.at_drop_more, lemmas.List.Sums.sum_by-cons, Math.ListN.get_or-map}
use Rattle.linear_law.{specs.Names.Each, proofs.Names.each_append}
use Rattle.simplicial_law.specs.Names.{Chain}
use Rattle.complex_index.specs.Names.{level}
use Rattle.report.specs.declared.{columns.CartanAnswer.CartanAnswer, columns.CartanAnswer.TheVariants.{No, Yes}, columns.OperationPart.OperationPart, columns.PairColumn.PairColumn, columns.ProductPart.ProductPart, complex.ComplexPart.ComplexPart, complex.DegreePart.DegreePart, map.InducedPart.InducedPart, map.MapPart.MapPart}
use Rattle.report_law.specs.Names.{below_in, classes_of, number_pairs, numbers_of, ranks_of}
use Rattle.certificate_law.specs.Names.{Asks, IsProductColumn, IsCounted, rank_in, Stated, after, answer_stated, below_stands, class_stands, induced_column, operation_column}
use Rattle.certificate_walk.{specs.declared.stop.Stop.Stop, specs.declared.stop.Stop.TheVariants.Fails, specs.Names.{degree_lines, IsWalk}, proofs.Names.{after_each, rest_next}}
use Rattle.listed_rows.proofs.CountLemmas.{simplices_counted}
use Rattle.count_check.specs.{Columns.AsksColumns, Totals.IsIndexed}

-- a test against a list, and against one that is the same
pub is_live : {X : Type 0} (x : X) (k : ℕ) {xs ys : List X} {b : Bool} → xs ≡ ys → (IsTrue b ↔ (slice_get ys k ≡ Some x)) → IsTrue b ↔ (slice_get xs k ≡ Some x)
is_live x k {xs} {ys} {b} e h = subst (λ (zs : List _). IsTrue b ↔ (slice_get zs k ≡ Some x)) (sym e) h

-- a rank, read off the ranks
pub rank_is : (c : ComplexPart) (n : ℕ) {ranks : List ℕ} → ranks_of c ≡ ranks → get_or ranks n 0 ≡ rank_in c n
rank_is c n {ranks} e = sym (ap (λ rs. get_or rs n 0) e) ∙ get_or-map (λ (cs : List Chain). length cs) (classes_of c) n []

-- what a test that is passed says
pub asked : (b : Bool) (n m last : ℕ) (r : Result ℕ Stop) → r ≡ (if b then Ok n else Err (Fails m)) → r ≡ Ok last → last ≡ n
asked true n m last r e f = cc
asked false n m last r e f = cc

-- ---- columns

pub operation_asks : (c : ComplexPart) (p : ℕ) (x : OperationPart) (columns rows : ℕ) → columns ≡ rank_in c x.from → rows ≡ rank_in c x.to → AsksColumns p (operation_column c x) columns rows
operation_asks c p x columns rows e f = record {
  asks = λ k y h. record { inside = subst (λ (n : ℕ). k < n) (sym e) h.inside; size = h.size ∙ sym f };
  holds = λ k y h. record { inside = subst (λ (n : ℕ). k < n) e h.inside; size = h.size ∙ f };
}

pub induced_asks : (from to : ComplexPart) (m : MapPart) (p : ℕ) (x : InducedPart) (columns rows : ℕ) → columns ≡ rank_in to x.q → rows ≡ rank_in from x.q → AsksColumns p (induced_column from to m x) columns rows
induced_asks from to m p x columns rows e f = record {
  asks = λ k y h. record { inside = subst (λ (n : ℕ). k < n) (sym e) h.inside; size = h.size ∙ sym f };
  holds = λ k y h. record { inside = subst (λ (n : ℕ). k < n) e h.inside; size = h.size ∙ f };
}

pub product_asks : (c : ComplexPart) (x : ProductPart) (k : ℕ) (y : PairColumn) (first second rows : ℕ) (b : Bool) → first ≡ rank_in c x.a → second ≡ rank_in c x.b → rows ≡ rank_in c (x.a + x.b) →
    (IsTrue b ↔ ((slice_get (number_pairs first second) k ≡ Some (numbers_of y)) × (length y.values ≡ rows))) → IsTrue b ↔ IsProductColumn c x k y
product_asks c x k y first second rows b e f g h = (
  λ t. let q = h.0 t in record { pair = sym (ap₂ (λ m n. slice_get (number_pairs m n) k) e f) ∙ q.0; size = q.1 ∙ g },
  λ q. h.1 (ap₂ (λ m n. slice_get (number_pairs m n) k) e f ∙ q.pair, q.size ∙ sym g),
)

-- ---- degrees

-- what is counted of a degree is at most the lines of it and of the next
pub degree_few : (ds : List DegreePart) (n : ℕ) (d : DegreePart) (next at all : ℕ) → n < length ds → d ≡ get_or ds n d → next ≡ length (get_or (map (λ x. x.below) ds) (n + 1) []) → at + sum_by degree_lines (drop n ds) ≡ all → all < 2 ^ 64 →
    length d.below + length d.classes + next < 2 ^ 64
degree_few ds n d next at all b e h c room =
    let r = rest_next degree_lines ds n d b e in
    let m = next_least ds (n + 1) in
    omega (arith, r, m, h, c, room)
  where
    next_least : (ds : List DegreePart) (n : ℕ) → length (get_or (map (λ x. x.below) ds) n []) ≤ sum_by degree_lines (drop n ds)
    next_least [] n = omega arith
    next_least (d ∷ ds) zero = let s = sum_by-cons degree_lines d ds in omega (arith, s)
    next_least (d ∷ ds) (suc n) = next_least ds n

-- nothing is asked of the chain under a Cartan line
pub asks_nothing : (p : ℕ) (answer : CartanAnswer) → Asks p 5 (answer_stated answer)
asks_nothing p (Yes primitive) = tt
asks_nothing p (No value cycle) = tt

-- ---- degrees

pub each_after : {X : Type 0} (P : Stated → Type 0) (line : List X → X → Stated) (b xs : List X) → ((b : List X) (x : X) → P (line b x)) → Each P (after (λ b x. line b x ∷ []) b xs)
each_after P line b [] h = tt
each_after P line b (x ∷ xs) h = (h b x, each_after P line (x ∷ b) xs h)

pub degree_tested : (c : ComplexPart) (n : ℕ) (d : DegreePart) (next : ℕ) (levels : List (List (List ℕ))) (b : Bool) → IsIndexed levels c → length (below_in c (n + 1)) ≡ next →
    (IsTrue b ↔ (length (level levels n) ≡ length d.below + length d.classes + next)) → IsTrue b ↔ IsCounted c.facets n d.below d.classes (below_in c (n + 1))
degree_tested c n d next levels b index e h =
    let s = simplices_counted c.facets levels index.index index.ascending n in
    let listed = length d.below + length d.classes in
    (λ t. s ∙ h.0 t ∙ ap (λ m. listed + m) (sym e), λ q. h.1 (sym s ∙ q ∙ ap (λ m. listed + m) e))

abbrev pub under_degree : ComplexPart → ℕ → DegreePart → List Stated
under_degree c n d = after (λ before y. below_stands c n before y ∷ []) [] d.below ++ after (λ before z. class_stands c n before z ∷ []) [] d.classes

-- the lines under a degree, of which nothing is asked
pub under_walked : (c : ComplexPart) (n p : ℕ) (d : DegreePart) (line x y : ℕ) → x ≡ length d.below → y ≡ length d.classes → IsWalk (Asks p 5) line (under_degree c n d) (Ok (line + x + y))
under_walked c n p d line x y e f = (
  (let a = length-append (after (λ before y. below_stands c n before y ∷ []) [] d.below) (after (λ before z. class_stands c n before z ∷ []) [] d.classes) in
      let b = after_each (below_stands c n) [] d.below in
      let z = after_each (class_stands c n) [] d.classes in
      omega (arith, a, b, z, e, f)),
  each_append (Asks p 5) (after (λ before y. below_stands c n before y ∷ []) [] d.below) (after (λ before z. class_stands c n before z ∷ []) [] d.classes)
      (each_after (Asks p 5) (below_stands c n) [] d.below (λ b x. tt)) (each_after (Asks p 5) (class_stands c n) [] d.classes (λ b x. tt)),
)
