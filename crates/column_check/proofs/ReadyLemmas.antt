-- What the conditions that were passed give of blocks, columns and lines.
use Rattle.std.proofs.{Common.{◌≡◌, ℕ, zero, suc, ◌+◌, ◌<◌, ◌≤◌, ◌&&◌, inl, inr, true, List, [], ◌∷◌, ◌++◌, map, length, get_or, arith, ap, subst, ℤ, ltb-true}, lemmas.Bool.{and_parts, cases_lt}, lemmas.List.length-map}
use Rattle.signed_sum.specs.Names.{numbers_from}
use Rattle.linear_law.{specs.Names.{Among, Each}, proofs.Names.each_zip}
use Rattle.simplicial_law.specs.Names.{Chain}
use Rattle.complex_index.specs.Names.{IsIndexOf, level}
use Rattle.certificate_law.{specs.Types.{CartanPart, OperationPart, ProductPart, ComplexPart, DegreePart, InducedPart, MapPart, Product}, specs.Names.{Asks, IsOn, rank_in, Stated, after, behind, below_stands, cartan_stated, class_stands, complex_ends, complex_stated, degree_stated, facet_stands, induced_column, induced_stated, map_between, map_ends, numbered, operation_column, operation_stated, product_column, product_stated, send_stands, with_stands}, proofs.Asked.{each_left, each_right}, proofs.Places.{at_count, at_each, each_at, numbered_heads}}
use Rattle.report_law.{specs.Names.{blocks, has_class, induced_degrees, lines, products, block_of, classes_of, line_of, number_pairs, numbers_of, product_of, ranks_of}, proofs.Names.{has-degree, of-blocks, rank-of, get_or-past, of-filter, of-flat_map, of-map, of-numbers, of-lines}}
use Rattle.report_text_law.specs.Names.{cartan_lines, induced_lines, operation_lines, product_lines, is_chain}
use Rattle.listed_rows.proofs.CountLemmas.{simplices_counted}
use Rattle.line_difference.{specs.Elements.AreStored, proofs.PlanLemmas.{block-low, block-stored, line-classes, line-low, line-stored}}
use Rattle.column_check.{specs.Listings.IsListedOn, specs.Ready.{HasPassed, HasPassedMap, IsCartanReady, IsColumnReady, IsInducedReady, IsOperationReady, IsPairReady, IsProductReady}, proofs.FormedLemmas.{answer, columns, few, formed, formed-blocks, formed-cartans, formed-classes, formed-facets, formed-operations, formed-products, induced-columns, operation-columns, product-columns}, proofs.ListLemmas.slice-among}
use Rattle.may_elements.specs.Stored.{Parts}

-- ---- the sections of a complex and of a map

module _ (P : Stated → Type 0) (before : List ComplexPart) (c : ComplexPart) (h : Each P (complex_stated before c)) where
  abbrev cartan-part : List Stated
  cartan-part = numbered (cartan_stated c) 0 c.cartans ++ complex_ends c ∷ []

  abbrev operation-part : List Stated
  operation-part = numbered (operation_stated c) 0 c.operations ++ cartan-part

  abbrev product-part : List Stated
  product-part = numbered (product_stated c) 0 c.products ++ operation-part

  behind-facets : Each P (numbered (degree_stated c) 0 c.degrees ++ product-part)
  behind-facets = each_right P (behind (λ fs f. facet_stands fs f ∷ []) [] c.facets) (numbered (degree_stated c) 0 c.degrees ++ product-part) h.1

  pub asked-degrees : Each P (numbered (degree_stated c) 0 c.degrees)
  asked-degrees = each_left P (numbered (degree_stated c) 0 c.degrees) product-part behind-facets

  behind-degrees : Each P product-part
  behind-degrees = each_right P (numbered (degree_stated c) 0 c.degrees) product-part behind-facets

  pub asked-products : Each P (numbered (product_stated c) 0 c.products)
  asked-products = each_left P (numbered (product_stated c) 0 c.products) operation-part behind-degrees

  behind-products : Each P operation-part
  behind-products = each_right P (numbered (product_stated c) 0 c.products) operation-part behind-degrees

  pub asked-operations : Each P (numbered (operation_stated c) 0 c.operations)
  asked-operations = each_left P (numbered (operation_stated c) 0 c.operations) cartan-part behind-products

  behind-operations : Each P cartan-part
  behind-operations = each_right P (numbered (operation_stated c) 0 c.operations) cartan-part behind-products

  pub asked-cartans : Each P (numbered (cartan_stated c) 0 c.cartans)
  asked-cartans = each_left P (numbered (cartan_stated c) 0 c.cartans) (complex_ends c ∷ []) behind-operations

  pub asked-end : P (complex_ends c)
  asked-end = (each_right P (numbered (cartan_stated c) 0 c.cartans) (complex_ends c ∷ []) behind-operations).0

pub asked-blocks : (P : Stated → Type 0) (from to : ComplexPart) (cs : List ComplexPart) (before : List MapPart) (m : MapPart) → Each P (map_between from to cs before m) → Each P (numbered (induced_stated from to m) 0 m.induced)
asked-blocks P from to cs before m h =
    each_left P (numbered (induced_stated from to m) 0 m.induced) (map_ends from to m ∷ [])
    (each_right P (behind (λ ss s. send_stands from to ss s ∷ []) [] m.sends) (numbered (induced_stated from to m) 0 m.induced ++ map_ends from to m ∷ []) h.1)

-- what is asked of the parts of a section, and told of them
each-part : {X : Type 0} (P : Stated → Type 0) (line : ℕ → X → List Stated) (F Q : X → Type 0) (xs : List X) → ((k : ℕ) (x : X) → Each P (line k x) → F x → Q x) → Each P (numbered line 0 xs) → Each F xs → Each Q xs
each-part P line F Q xs f h formed =
    each_zip (λ x a b. a b) xs (at_each (λ (k : ℕ) x. F x → Q x) (λ x. F x → Q x) (λ k x a. a) 0 xs (numbered_heads P line (λ k x. F x → Q x) f 0 xs h)) formed

each-column : {X : Type 0} (P : Stated → Type 0) (line : ℕ → X → Stated) (next : X → Stated) (F Q : X → Type 0) (xs : List X) → ((k : ℕ) (x : X) → P (line k x) → F x → Q x)
    → Each P (numbered (λ k x. line k x ∷ next x ∷ []) 0 xs) → Each F xs → Each Q xs
each-column P line next F Q xs f h formed = each-part P (λ k x. line k x ∷ next x ∷ []) F Q xs (λ k x a b. f k x a.0 b) h formed

-- ---- degrees and classes

class-lines : (P : Stated → Type 0) (Q : Chain → Type 0) (c : ComplexPart) (n : ℕ) → ((before : List Chain) (z : Chain) → P (class_stands c n before z) → Q z) → (before zs : List Chain)
    → Each P (after (λ before z. class_stands c n before z ∷ []) before zs) → Each Q zs
class-lines P Q c n f before [] h = tt
class-lines P Q c n f before (z ∷ zs) h = (f before z h.0, class-lines P Q c n f (z ∷ before) zs h.1)

degree-classes : (p : ℕ) (c : ComplexPart) (k : ℕ) (ds : List DegreePart) → Each (Asks p 3) (numbered (degree_stated c) k ds) → (n : ℕ) → Each (IsOn c.facets (k + n)) (get_or (map (λ d. d.classes) ds) n [])
degree-classes p c k [] h n = tt
degree-classes p c k (d ∷ ds) h zero =
    let e : k ≡ k + 0 = omega arith in
    subst (λ (m : ℕ). Each (IsOn c.facets m) d.classes) e
    (class-lines (Asks p 3) (IsOn c.facets k) c k (λ before z a. a.on) [] d.classes
    (each_right (Asks p 3) (after (λ before y. below_stands c k before y ∷ []) [] d.below) (after (λ before z. class_stands c k before z ∷ []) [] d.classes)
    (each_left (Asks p 3) (degree_stated c k d) (numbered (degree_stated c) (k + 1) ds) h).1))
degree-classes p c k (d ∷ ds) h (suc n) =
    let e : (k + 1) + n ≡ k + suc n = omega arith in
    subst (λ (m : ℕ). Each (IsOn c.facets m) (get_or (map (λ d. d.classes) ds) n [])) e
    (degree-classes p c (k + 1) ds (each_right (Asks p 3) (degree_stated c k d) (numbered (degree_stated c) (k + 1) ds) h) n)

module _ (p : ℕ) (c : ComplexPart) (levels : List (List (List ℕ))) (is : IsIndexOf c.facets levels) (passed : HasPassed p c) where
  pub listed-classes : (n : ℕ) → Each (IsListedOn p levels n) (get_or (map (λ d. d.classes) c.degrees) n [])
  listed-classes n =
      let here : List Chain = get_or (map (λ d. d.classes) c.degrees) n [] in
      let e : 0 + n ≡ n = omega arith in
      let on : Each (IsOn c.facets n) here = subst (λ (m : ℕ). Each (IsOn c.facets m) here) e (degree-classes p c 0 c.degrees (asked-degrees (Asks p 3) [] c (passed.classes [])) n) in
      each_zip (λ z a b. record { formed = a; facets = c.facets; index = is; on = b }) here (formed-classes p c passed.formed n) on

  -- the degrees that are listed are those of the index
  pub all-degrees : length c.degrees ≡ length levels
  all-degrees =
      let its = asked-end (Asks p 2) [] c (passed.degrees []) in
      let count = simplices_counted c.facets levels is (formed-facets p c passed.formed) in
      let below : (n : ℕ) → n < length c.degrees → n < length levels = λ n l. inside n (let a = its.inhabited n l in let e = count n in omega (arith, a, e)) in
      let above : (n : ℕ) → n < length levels → n < length c.degrees = λ n l. its.whole n (let a = is.inhabited n l in let e = count n in omega (arith, a, e)) in
      equal (length c.degrees) (length levels) below above
    where
      inside : (n : ℕ) → 0 < length (level levels n) → n < length levels
      inside n l = elim (cases_lt n (length levels)) [
        | inl b ↦ b
        | inr b ↦ (let e = ap (λ (ss : List (List ℕ)). length ss) (get_or-past levels n [] b) in absurd (omega (arith, l, e)))
      ]

      equal : (a b : ℕ) → ((n : ℕ) → n < a → n < b) → ((n : ℕ) → n < b → n < a) → a ≡ b
      equal a b f g = elim (cases_lt a b) [
        | inl l ↦ (let k = g a l in absurd (omega (arith, k)))
        | inr l ↦ elim (cases_lt b a) [ inl m ↦ (let k = f b m in absurd (omega (arith, k))) | inr m ↦ omega (arith, l, m) ]
      ]

-- ---- blocks and lines

has-rank : (c : ComplexPart) (n : ℕ) → has_class (ranks_of c) n ≡ true → 0 < rank_in c n
has-rank c n h = let l = ltb-true 0 (get_or (ranks_of c) n 0) h in let e = rank-of (classes_of c) n in omega (arith, l, e)

in-pairs : (h k : ℕ) (e : ℕ × ℕ) → Among e (number_pairs h k) → ((1 ≤ e.0) × (e.0 ≤ h)) × ((1 ≤ e.1) × (e.1 ≤ k))
in-pairs h k e m =
    let a = of-flat_map (λ i. map (λ j. (i, j)) (numbers_from 1 k)) (numbers_from 1 h) e m in
    let b = of-map (λ j. (a.0, j)) (numbers_from 1 k) e a.2 in
    let c = of-numbers a.0 1 h a.1 in
    let d = of-numbers b.0 1 k b.1 in
    subst (λ (f : ℕ × ℕ). ((1 ≤ f.0) × (f.0 ≤ h)) × ((1 ≤ f.1) × (f.1 ≤ k))) b.2 ((c.0, let u = c.1 in omega (arith, u)), (d.0, let u = d.1 in omega (arith, u)))

module _ (p : ℕ) (table : Parts) (c : ComplexPart) (low : length c.degrees ≤ 16) (passed : HasPassed p c) where
  few-ranks : length (ranks_of c) ≤ 16
  few-ranks = let a = length-map (classes_of c) (λ (cs : List Chain). length cs) in let b = length-map c.degrees (λ (d : DegreePart). d.classes) in omega (arith, a, b, low)

  abbrev counts : Each (Asks p 5) (complex_stated [] c)
  counts = passed.counts []

  product-ready : (k : ℕ) (x : ProductPart) → Each (Asks p 5) (product_stated c k x) → formed p (product_lines x) → IsProductReady p c x
  product-ready k x h f =
      let ranks : List ℕ = ranks_of c in
      let live = (of-filter (λ (y : Product). has_class ranks y.a && (has_class ranks y.b && has_class ranks (y.a + y.b))) _ (product_of x) (slice-among (products ranks) k (product_of x) h.0)).1 in
      let sum = (and_parts (has_class ranks x.b) (has_class ranks (x.a + x.b)) (and_parts (has_class ranks x.a) (has_class ranks x.b && has_class ranks (x.a + x.b)) live).1).1 in
      record {
        low = let a = has-degree ranks (x.a + x.b) sum in let b = few-ranks in omega (arith, a, b);
        live = has-rank c (x.a + x.b) sum;
        columns = each-column (Asks p 5) (product_column c x) (λ y. with_stands y.primitive) (λ y. is_chain p y.primitive ≡ true) (IsPairReady p c x) x.columns
            (λ j y a b. (let e = in-pairs (rank_in c x.a) (rank_in c x.b) (numbers_of y) (slice-among (number_pairs (rank_in c x.a) (rank_in c x.b)) j (numbers_of y) a.pair) in
            record { first = e.0; second = e.1; size = a.size; formed = b }))
            h.1 (product-columns p x f);
      }

  pub products-ready : Each (IsProductReady p c) c.products
  products-ready = each-part (Asks p 5) (product_stated c) (λ x. formed p (product_lines x)) (IsProductReady p c) c.products product-ready (asked-products (Asks p 5) [] c counts) (formed-products p c passed.formed)

  module _ (stored : AreStored p table (ranks_of c)) where
    operation-ready : (k : ℕ) (x : OperationPart) → Each (Asks p 5) (operation_stated c k x) → formed p (operation_lines x) → IsOperationReady p table c x
    operation-ready k x h f =
        let ranks : List ℕ = ranks_of c in
        let among = slice-among (blocks p ranks) k (block_of x) h.0 in
        let live = (of-filter (λ (y : _). has_class ranks y.from && has_class ranks y.to) _ (block_of x) among).1 in
        let is = of-blocks p ranks (block_of x) among in
        let fs = operation-columns p x f in
        let most = at_count (λ j y. Asks p 5 (operation_column c x j y)) (rank_in c x.from) (λ j y a. a.inside) 0 x.columns (omega arith) (each_at (Asks p 5) (operation_column c x) (λ y. with_stands y.primitive) 0 x.columns h.1) in
        record {
          low = block-low ranks few-ranks p (block_of x) among;
          live = has-rank c x.to (and_parts (has_class ranks x.from) (has_class ranks x.to) live).1;
          defined = is.defined;
          target = is.target;
          stored = block-stored p table ranks stored (block_of x) among;
          count = omega (arith, most);
          few = few p x.columns fs;
          columns = each-column (Asks p 5) (operation_column c x) (λ y. with_stands y.primitive) (λ y. is_chain p y.primitive ≡ true) (IsColumnReady p (rank_in c x.to)) x.columns (λ j y a b. record { size = a.size; formed = b }) h.1 (columns p 1 x.columns fs);
        }

    pub operations-ready : Each (IsOperationReady p table c) c.operations
    operations-ready = each-part (Asks p 5) (operation_stated c) (λ x. formed p (operation_lines x)) (IsOperationReady p table c) c.operations operation-ready (asked-operations (Asks p 5) [] c counts) (formed-operations p c passed.formed)

    cartan-ready : (k : ℕ) (x : CartanPart) → Each (Asks p 5) (cartan_stated c k x) → formed p (cartan_lines x) → IsCartanReady p table c x
    cartan-ready k x h f =
        let ranks : List ℕ = ranks_of c in
        let among = slice-among (lines p ranks) k (line_of x) h.0 in
        let classes = line-classes p ranks (line_of x) among in
        let a = rank-of (classes_of c) x.a in
        let b = rank-of (classes_of c) x.b in
        record {
          low = line-low ranks few-ranks p (line_of x) among;
          defined = (of-lines p ranks (line_of x) among).0;
          stored = line-stored p table ranks stored (line_of x) among;
          first = (classes.first.0, let u = classes.first.1 in omega (arith, u, a));
          second = (classes.second.0, let u = classes.second.1 in omega (arith, u, b));
          formed = answer p x f;
        }

    pub cartans-ready : Each (IsCartanReady p table c) c.cartans
    cartans-ready = each-part (Asks p 5) (cartan_stated c) (λ x. formed p (cartan_lines x)) (IsCartanReady p table c) c.cartans cartan-ready (asked-cartans (Asks p 5) [] c counts) (formed-cartans p c passed.formed)

pub blocks-ready : (p : ℕ) (from to : ComplexPart) (m : MapPart) → HasPassedMap p from to m → Each (IsInducedReady p from to) m.induced
blocks-ready p from to m passed = each-part (Asks p 5) (induced_stated from to m) (λ x. formed p (induced_lines x)) (IsInducedReady p from to) m.induced ready (asked-blocks (Asks p 5) from to [] [] m (passed.counts [] [])) (formed-blocks p m passed.formed)
  where
    ready : (k : ℕ) (x : InducedPart) → Each (Asks p 5) (induced_stated from to m k x) → formed p (induced_lines x) → IsInducedReady p from to x
    ready k x h f =
        let first : List ℕ = ranks_of from in
        let second : List ℕ = ranks_of to in
        let live = (of-filter (λ q. has_class first q && has_class second q) _ x.q (slice-among (induced_degrees first second) k x.q h.0)).1 in
        let fs = induced-columns p x f in
        let most = at_count (λ j y. Asks p 5 (induced_column from to m x j y)) (rank_in to x.q) (λ j y a. a.inside) 0 x.columns (omega arith) (each_at (Asks p 5) (induced_column from to m x) (λ y. with_stands y.primitive) 0 x.columns h.1) in
        record {
          live = has-rank from x.q (and_parts (has_class first x.q) (has_class second x.q) live).0;
          count = omega (arith, most);
          few = few p x.columns fs;
          columns = each-column (Asks p 5) (induced_column from to m x) (λ y. with_stands y.primitive) (λ y. is_chain p y.primitive ≡ true) (IsColumnReady p (rank_in from x.q)) x.columns (λ j y a b. record { size = a.size; formed = b }) h.1 (columns p 1 x.columns fs);
        }
