-- What well-formed lines of a complex and of a map tell: the chains under them are well formed.
use Rattle.std.{proofs.Common.{◌≡◌, ℕ, zero, suc, ◌+◌, ◌^◌, ◌<◌, ◌≤◌, ◌&&◌, Bool, true, List, [], ◌∷◌, ◌++◌, map, length, get_or, arith, refl, flat_map, ltb-true}, specs.List.list_all, proofs.lemmas.Bool.and_parts}
use Rattle.linear_law.specs.Names.{Each, IsAscending}
use Rattle.certificate_law.{specs.Types.{CartanAnswer, Yes, No, CartanPart, Column, OperationPart, PairColumn, ProductPart, ComplexPart, DegreePart, InducedPart, MapPart, TextLine as Line, below_line, cartan_no, cartan_yes, class_line, column_line, complex_line, cycle_line, degree_line, end_line, facet_line, induced_line, map_line, operation_line, pair_line, product_line, with_line}, proofs.WellFormed.facet_ascends}
use Rattle.report_text_law.specs.Names.{answer_lines, cartan_lines, columns_from, complex_lines, degree_lines, degrees_from, induced_lines, map_lines, operation_lines, pair_lines, product_lines, send_of, table_lines, are_values, is_chain, is_line, is_simplex, is_u32}
use Rattle.column_check.specs.Ready.{IsFormedAnswer}

module _ {X : Type 0} (t : X → Bool) where
  pub all-left : (xs ys : List X) → list_all t (xs ++ ys) ≡ true → list_all t xs ≡ true
  all-left [] ys h = refl
  all-left (x ∷ xs) ys h =
      let p = and_parts (t x) (list_all t (xs ++ ys)) h in
      both (t x) (list_all t xs) p.0 (all-left xs ys p.1)
    where
      both : (a b : Bool) → a ≡ true → b ≡ true → (a && b) ≡ true
      both a b e f = cc

  pub all-right : (xs ys : List X) → list_all t (xs ++ ys) ≡ true → list_all t ys ≡ true
  all-right [] ys h = h
  all-right (x ∷ xs) ys h = all-right xs ys (and_parts (t x) (list_all t (xs ++ ys)) h).1

  pub all-flat : {Y : Type 0} (g : Y → List X) (ys : List Y) → list_all t (flat_map g ys) ≡ true → Each (λ y. list_all t (g y) ≡ true) ys
  all-flat g [] h = tt
  all-flat g (y ∷ ys) h = (all-left (g y) (flat_map g ys) h, all-flat g ys (all-right (g y) (flat_map g ys) h))

  pub all-map : {Y : Type 0} (g : Y → X) (ys : List Y) → list_all t (map g ys) ≡ true → Each (λ y. t (g y) ≡ true) ys
  all-map g [] h = tt
  all-map g (y ∷ ys) h = let p = and_parts (t (g y)) (list_all t (map g ys)) h in (p.0, all-map g ys p.1)

abbrev degree_at : ℕ → DegreePart → Line
degree_at n d = degree_line n (length d.classes)

abbrev complex_at : ComplexPart → Line
complex_at c = complex_line c.name

abbrev map_at : MapPart → Line
map_at m = map_line m.name m.from m.to

module _ (p : ℕ) where
  abbrev pub formed : List Line → Type 0
  formed ls = list_all (is_line p) ls ≡ true

  pub columns : (j : ℕ) (ys : List Column) → formed (columns_from j ys) → Each (λ y. is_chain p y.primitive ≡ true) ys
  columns j [] h = tt
  columns j (y ∷ ys) h =
      let a = and_parts (is_line p (column_line j y.values)) (list_all (is_line p) (with_line y.primitive ∷ columns_from (j + 1) ys)) h in
      let b = and_parts (is_line p (with_line y.primitive)) (list_all (is_line p) (columns_from (j + 1) ys)) a.1 in
      (b.0, columns (j + 1) ys b.1)

  few-from : (j : ℕ) (ys : List Column) → formed (columns_from j ys) → j ≤ 2 ^ 32 → j + length ys ≤ 2 ^ 32
  few-from j [] h b = omega (arith, b)
  few-from j (y ∷ ys) h b =
      let a = and_parts (is_line p (column_line j y.values)) (list_all (is_line p) (with_line y.primitive ∷ columns_from (j + 1) ys)) h in
      let here : j < 2 ^ 32 = ltb-true j (2 ^ 32) (and_parts (is_u32 j) (are_values p y.values) a.0).0 in
      let r = few-from (j + 1) ys (and_parts (is_line p (with_line y.primitive)) (list_all (is_line p) (columns_from (j + 1) ys)) a.1).1 (omega (arith, here)) in
      omega (arith, r)

  pub few : (ys : List Column) → formed (columns_from 1 ys) → length ys < 2 ^ 32
  few ys h = let r = few-from 1 ys h (omega arith) in omega (arith, r)

  pub operation-columns : (x : OperationPart) → formed (operation_lines x) → formed (columns_from 1 x.columns)
  operation-columns x h = (and_parts (is_line p (operation_line x.word x.number x.from x.to)) (list_all (is_line p) (columns_from 1 x.columns)) h).1

  pub induced-columns : (x : InducedPart) → formed (induced_lines x) → formed (columns_from 1 x.columns)
  induced-columns x h = (and_parts (is_line p (induced_line x.q)) (list_all (is_line p) (columns_from 1 x.columns)) h).1

  pairs : (ys : List PairColumn) → formed (flat_map pair_lines ys) → Each (λ y. is_chain p y.primitive ≡ true) ys
  pairs [] h = tt
  pairs (y ∷ ys) h =
      let a = and_parts (is_line p (pair_line y.i y.j y.values)) (list_all (is_line p) (with_line y.primitive ∷ flat_map pair_lines ys)) h in
      let b = and_parts (is_line p (with_line y.primitive)) (list_all (is_line p) (flat_map pair_lines ys)) a.1 in
      (b.0, pairs ys b.1)

  pub product-columns : (x : ProductPart) → formed (product_lines x) → Each (λ y. is_chain p y.primitive ≡ true) x.columns
  product-columns x h = pairs x.columns (and_parts (is_line p (product_line x.a x.b)) (list_all (is_line p) (flat_map pair_lines x.columns)) h).1

  pub answer : (x : CartanPart) → formed (cartan_lines x) → IsFormedAnswer p x.answer
  answer x h = go x.answer h
    where
      go : (r : CartanAnswer) → formed (answer_lines x.a x.i x.b x.j x.n r) → IsFormedAnswer p r
      go (Yes primitive) k = (and_parts (is_line p (with_line primitive)) true (and_parts (is_line p (cartan_yes x.a x.i x.b x.j x.n)) (is_line p (with_line primitive) && true) k).1).0
      go (No value cycle) k = (and_parts (is_line p (cycle_line cycle)) true (and_parts (is_line p (cartan_no x.a x.i x.b x.j x.n value)) (is_line p (cycle_line cycle) && true) k).1).0

  -- the classes of each degree
  pub classes : (m : ℕ) (ds : List DegreePart) → formed (degrees_from m ds) → (n : ℕ) → Each (λ z. is_chain p z ≡ true) (get_or (map (λ d. d.classes) ds) n [])
  classes m [] h n = tt
  classes m (d ∷ ds) h zero =
      all-map (is_line p) class_line d.classes
      (all-right (is_line p) (map below_line d.below) (map class_line d.classes) (and_parts (is_line p (degree_at m d)) (list_all (is_line p) (map below_line d.below ++ map class_line d.classes)) (all-left (is_line p) (degree_lines m d) (degrees_from (m + 1) ds) h)).1)
  classes m (d ∷ ds) h (suc n) = classes (m + 1) ds (all-right (is_line p) (degree_lines m d) (degrees_from (m + 1) ds) h) n

  module _ (c : ComplexPart) (h : formed (complex_lines c)) where
    behind-name : formed (map facet_line c.facets ++ (degrees_from 0 c.degrees ++ table_lines c))
    behind-name = (and_parts (is_line p (complex_at c)) (list_all (is_line p) (map facet_line c.facets ++ (degrees_from 0 c.degrees ++ table_lines c))) h).1

    behind-facets : formed (degrees_from 0 c.degrees ++ table_lines c)
    behind-facets = all-right (is_line p) (map facet_line c.facets) (degrees_from 0 c.degrees ++ table_lines c) behind-name

    tables : formed (table_lines c)
    tables = all-right (is_line p) (degrees_from 0 c.degrees) (table_lines c) behind-facets

    abbrev cartan-part : List Line
    cartan-part = flat_map cartan_lines c.cartans ++ end_line ∷ []

    abbrev operation-part : List Line
    operation-part = flat_map operation_lines c.operations ++ cartan-part

    pub formed-facets : Each IsAscending c.facets
    formed-facets = ascending c.facets (all-map (is_line p) facet_line c.facets (all-left (is_line p) (map facet_line c.facets) (degrees_from 0 c.degrees ++ table_lines c) behind-name))
      where
        ascending : (fs : List (List ℕ)) → Each (λ f. is_simplex f ≡ true) fs → Each IsAscending fs
        ascending [] k = tt
        ascending (f ∷ fs) k = (facet_ascends f k.0, ascending fs k.1)

    pub formed-classes : (n : ℕ) → Each (λ z. is_chain p z ≡ true) (get_or (map (λ d. d.classes) c.degrees) n [])
    formed-classes = classes 0 c.degrees (all-left (is_line p) (degrees_from 0 c.degrees) (table_lines c) behind-facets)

    pub formed-products : Each (λ x. formed (product_lines x)) c.products
    formed-products = all-flat (is_line p) product_lines c.products (all-left (is_line p) (flat_map product_lines c.products) operation-part tables)

    behind-products : formed operation-part
    behind-products = all-right (is_line p) (flat_map product_lines c.products) operation-part tables

    pub formed-operations : Each (λ x. formed (operation_lines x)) c.operations
    formed-operations = all-flat (is_line p) operation_lines c.operations (all-left (is_line p) (flat_map operation_lines c.operations) cartan-part behind-products)

    pub formed-cartans : Each (λ x. formed (cartan_lines x)) c.cartans
    formed-cartans = all-flat (is_line p) cartan_lines c.cartans
        (all-left (is_line p) (flat_map cartan_lines c.cartans) (end_line ∷ []) (all-right (is_line p) (flat_map operation_lines c.operations) cartan-part behind-products))

  pub formed-blocks : (m : MapPart) → formed (map_lines m) → Each (λ x. formed (induced_lines x)) m.induced
  formed-blocks m h =
      all-flat (is_line p) induced_lines m.induced
      (all-left (is_line p) (flat_map induced_lines m.induced) (end_line ∷ [])
      (all-right (is_line p) (map send_of m.sends) (flat_map induced_lines m.induced ++ end_line ∷ [])
      (and_parts (is_line p (map_at m)) (list_all (is_line p) (map send_of m.sends ++ (flat_map induced_lines m.induced ++ end_line ∷ []))) h).1))
