-- Canonical data pass the conditions on the lines of a complex.
use Rattle.std.{proofs.Common.{◌≡◌, ℕ, zero, suc, ◌+◌, ◌-◌, ◌<◌, ◌≤◌, ◌==◌, nat_le, true, IsTrue, refl, sym, ◌∙◌, ap, subst, arith, List, [], ◌∷◌, ◌++◌, length, map, get_or, slice_get, Some, eqb-true}, specs.List.AllZip, proofs.lemmas.Bool.and_parts, proofs.lemmas.List.length-map}
use Rattle.fp_field.{proofs.ServedLemmas.served_field, specs.Served.served}
use Rattle.linear_law.{specs.Names.{IsField, Among, Each, IsAscending, combination}, proofs.Names.{Congruent_add, Congruent_from, Congruent_of, Congruent_sym, Congruent_trans, add-negated, among_map, each_among, each_append, each_get_or, each_map, length_alike, each_of_index}}
use Rattle.simplicial_law.{specs.Names.{IsSimplex, AgreesOnSimplices, Chain, Cochain, IsCocycle, coboundary, cochain_of, of_degree}, specs.ListedSimplices.simplices, proofs.Names.{coboundary_zero, listed_simplices_law}}
use Rattle.steenrod_law.specs.Names.{cochain_products, cup_product}
use Rattle.certificate_law.{specs.Types.{CartanAnswer, Yes, No, CartanPart, Column, OperationPart, PairColumn, ProductPart, ComplexPart, DegreePart, Block, Op, Square}, specs.Names.{HasItsDegrees, IsBlockLine, IsCartanLine, IsClassLine, IsCoboundaryLine, IsCocycleLine, IsColumnAt, IsColumnLine, IsComplexWhole, IsCountLine, IsInducedLine, IsNewComplex, IsProductColumn, IsRightAnswer, IsRightOperation, IsRightProduct, column_sum, HasNewLeast, IsOn, IsOnBelow, coboundaries_of, simplex_count, itself, rank_in, Stated, after, answer_stated, behind, below_stands, cartan_stated, class_stands, complex_ends, complex_stated, degree_stated, facet_stands, numbered, operation_column, operation_stated, product_column, product_stated, with_stands}, proofs.Building.{at_both, at_index, at_of_each, each_numbered, placed, zip_places}, proofs.CanonicalData.canonical_listed, proofs.CertifiedBases.{below_at, below_past, classes_at, no_degree}, proofs.Columns.products_by_pairs, proofs.ListedBases.{EachAfter, IsListedWell}, proofs.Places.{EachAt, at_map}}
use Rattle.report_law.{specs.Names.{IsAnswer, IsColumn, IsPrimitive, IsCartanDifference, IsOperation, listed, blocks, is_defined, lines, products, target_degree, IsOperationColumn, class_at, classes_in, line_degree, below_in, block_of, classes_of, line_of, number_pairs, numbers_of, op_of, product_of, ranks_of, unnumbered, AreTables, IsCartanPart, IsComplexPart, IsOperationPart, IsProductPart}, proofs.Names.{of-blocks, is_cycle, reads}}

-- what the conditions ask of a line
abbrev pub IsRight : ℕ → Stated → Type 0
IsRight p s = IsBlockLine s × IsCoboundaryLine p s × IsCocycleLine p s × IsClassLine p s × IsCountLine p s × IsColumnLine p s × IsInducedLine p s × IsCartanLine p s

-- columns with the chains under them, of which nothing is asked
pub columns_right : {X : Type 0} (p : ℕ) (line : ℕ → X → Stated) (chain : X → Chain) (k : ℕ) (xs : List X) → EachAt (λ j x. IsRight p (line j x)) k xs → Each (IsRight p) (numbered (λ j x. line j x ∷ with_stands (chain x) ∷ []) k xs)
unfolding EachAt
columns_right p line chain k [] h = tt
columns_right p line chain k (x ∷ xs) h = (h.0, ((tt, tt, tt, tt, tt, tt, tt, tt), columns_right p line chain (k + 1) xs h.1))

-- ---- columns

-- a canonical primitive has one degree less
pub primitive_on : (facets : List (List ℕ)) (n p : ℕ) (z : Cochain) (primitive : Chain) → IsPrimitive facets n p z primitive → IsOnBelow facets n primitive
primitive_on facets zero p z primitive h = subst (IsOnBelow facets zero) (sym h.1) tt
primitive_on facets (suc m) p z primitive h = each_map (λ t on. record { degree = m; one_less = (let e : suc m ≡ m + 1 = omega arith in e); simplex = on }) primitive h.1.simplices

-- its coboundary is the cochain
primitive_same : (facets : List (List ℕ)) (n p : ℕ) (z : Cochain) (primitive : Chain) → IsPrimitive facets n p z primitive → AgreesOnSimplices facets n p z (coboundary p (cochain_of primitive))
primitive_same facets zero p z primitive h = record {
  at = λ s on. Congruent_trans (h.0.at s on) (Congruent_of (sym (ap (λ (ts : Chain). coboundary p (cochain_of ts) s) h.1 ∙ coboundary_zero p s)));
}
primitive_same facets (suc m) p z primitive h =
    let e : m + 1 ≡ suc m = omega arith in
    subst (λ (k : ℕ). AgreesOnSimplices facets k p z (coboundary p (cochain_of primitive))) e h.0.same

-- a column is the sum that is asked for
pub column_same : (facets : List (List ℕ)) (n p : ℕ) (zs : List Cochain) (z : Cochain) (values : List ℕ) (primitive : Chain) → 1 < p → IsColumn true facets n p zs z values primitive → AgreesOnSimplices facets n p z (column_sum p zs values primitive)
column_same facets n p zs z values primitive large h =
    let same = primitive_same facets n p _ primitive (h.rest refl) in
    record { at = λ s on. Congruent_from (Congruent_add (same.at s on) (Congruent_sym (add-negated p (combination values zs s) large))) (omega arith) }

operation_alike : (facets : List (List ℕ)) (p q : ℕ) (op : Op) (z a b : Cochain) → AgreesOnSimplices facets (target_degree p q op) p b a → IsOperation facets p op q z a → ((k : ℕ) → op ≡ Square k → p ≡ 2) → IsOperation facets p op q z b
operation_alike facets p q (Square k) z a b e h two =
    let f : AgreesOnSimplices facets (q + k) 2 b a = subst (λ (m : ℕ). AgreesOnSimplices facets (q + k) m b a) (two k refl) e in
    record { defined = h.defined; value = record { at = λ s on. Congruent_trans (f.at s on) (h.value.at s on) } }
operation_alike facets p q _ z a b e h two = record { odd = h.odd; defined = h.defined; scale = h.scale; is_scale = h.is_scale; value = record { at = λ t on. Congruent_trans (e.at t on) (h.value.at t on) } }

shorter : {X Y : Type 0} (f : X → Y) (xs : List X) (ys : List Y) → map f xs ≡ ys → length ys ≤ length xs
shorter f xs ys e = let l = ap length e in let m = length-map xs f in omega (arith, l, m)

-- ---- the lines of a complex

module _ (p : ℕ) (is_served : IsTrue (served p)) (c : ComplexPart) (ascending : Each IsAscending c.facets) (part : IsComplexPart true true p (itself c) c) where
  field : IsField p
  field = served_field p is_served

  tables : AreTables true c.facets p (classes_of c) c
  tables = part.tables refl

  count : length (classes_of c) ≡ length c.degrees
  count = length-map c.degrees (λ (d : DegreePart). d.classes)

  -- the number of classes, as cochains
  rank_is : (n : ℕ) → length (listed c n) ≡ rank_in c n
  rank_is n = length-map (classes_in (classes_of c) n) cochain_of

  -- ---- degrees

  well : IsListedWell c.facets p (length c.degrees) (below_in c) (classes_in (classes_of c))
  well =
      canonical_listed c.facets p (length c.degrees) (below_in c) (classes_in (classes_of c)) field ascending (part.below refl)
      (λ n b. part.classes.each n (let k = count in omega (arith, b, k))) (below_past c) (λ n s on. let w = part.classes.whole n s on in let k = count in omega (arith, w, k))

  below_back : (n : ℕ) (before ys : List Chain) → Each (IsOnBelow c.facets n) ys → EachAfter (HasNewLeast c.facets n p) (coboundaries_of p before) (coboundaries_of p ys) → Each (IsRight p) (after (λ b y. below_stands c n b y ∷ []) before ys)
  below_back n before [] h g = tt
  below_back n before (y ∷ ys) h g = ((tt, record { on = h.0; new = g.0 }, tt, tt, tt, tt, tt, tt), below_back n (y ∷ before) ys h.1 g.1)

  classes_back : (n : ℕ) (before zs : List Chain) → Each (λ z. IsOn c.facets n z × IsCocycle c.facets n p (cochain_of z)) zs
      → EachAfter (HasNewLeast c.facets n p) (map cochain_of before ++ coboundaries_of p (below_in c n)) (map cochain_of zs) → Each (IsRight p) (after (λ b z. class_stands c n b z ∷ []) before zs)
  classes_back n before [] h g = tt
  classes_back n before (z ∷ zs) h g = ((tt, tt, record { on = h.0.0; closed = h.0.1 }, g.0, tt, tt, tt, tt), classes_back n (z ∷ before) zs h.1 g.1)

  degree_right : (n : ℕ) → n < length c.degrees → Each (IsRight p) (degree_stated c n (get_or c.degrees n no_degree))
  degree_right n b =
      let d : DegreePart = get_or c.degrees n no_degree in
      let counted =
      subst (λ (ys : List Chain). simplex_count c.facets n ≡ length ys + length d.classes + length (below_in c (n + 1))) (sym (below_at c n))
      (subst (λ (zs : List Chain). simplex_count c.facets n ≡ length (below_in c n) + length zs + length (below_in c (n + 1))) (sym (classes_at c n)) (well.counts n b)) in (
        (tt, tt, tt, tt, counted, tt, tt, tt),
        each_append (IsRight p) (after (λ b y. below_stands c n b y ∷ []) [] d.below) (after (λ b z. class_stands c n b z ∷ []) [] d.classes)
            (subst (λ (ys : List Chain). Each (IsRight p) (after (λ b y. below_stands c n b y ∷ []) [] ys)) (sym (below_at c n)) (below_back n [] (below_in c n) (well.coboundaries n b).degrees (well.coboundaries n b).least))
            (subst (λ (zs : List Chain). Each (IsRight p) (after (λ b z. class_stands c n b z ∷ []) [] zs)) (sym (classes_at c n)) (classes_back n [] (classes_in (classes_of c) n) (well.cocycles n b) (well.new n b))),
      )

  -- ---- products

  product_right : (k : ℕ) (x : ProductPart) → slice_get (products (ranks_of c)) k ≡ Some (product_of x) → IsProductPart true c.facets p (classes_of c) x → Each (IsRight p) (product_stated c k x)
  product_right k x at h =
      let n : ℕ = x.a + x.b in
      let pairs : List (ℕ × ℕ) = number_pairs (rank_in c x.a) (rank_in c x.b) in
      let R : Cochain → Column → Type 0 = λ z y. IsColumn true c.facets n p (listed c n) z y.values y.primitive in
      let G : ℕ × ℕ → Cochain = λ t. cup_product p x.a x.b (class_at (classes_of c) x.a t.0) (class_at (classes_of c) x.b t.1) in
      let e : map G (map numbers_of x.columns) ≡ cochain_products p x.a x.b (listed c x.a) (listed c x.b) = ap (map G) h.numbers ∙ products_by_pairs p x.a x.b (classes_in (classes_of c) x.a) (classes_in (classes_of c) x.b) in
      let columns : Each (λ y. R (G (numbers_of y)) (unnumbered y)) x.columns = zip_columns R G x.columns (subst (λ (us : List Cochain). AllZip R us (map unnumbered x.columns)) (sym e) h.block) in
      let right : (j : ℕ) (y : PairColumn) → slice_get pairs j ≡ Some (numbers_of y) → R (G (numbers_of y)) (unnumbered y) → IsRight p (product_column c x j y) = λ j y a g.
      let counted : IsProductColumn c x j y = record { pair = a; size = g.coordinates.count ∙ rank_is n } in
      let same : IsRightProduct c p x y = record { on = primitive_on c.facets n p _ y.primitive (g.rest refl); same = column_same c.facets n p (listed c n) (G (numbers_of y)) y.values y.primitive field.large g } in
      (tt, tt, tt, tt, counted, same, tt, tt) in (
        (tt, tt, tt, tt, at, tt, tt, tt),
        columns_right p (product_column c x) (λ y. y.primitive) 0 x.columns
            (at_both (λ j y. slice_get pairs j ≡ Some (numbers_of y)) (λ j y. R (G (numbers_of y)) (unnumbered y)) (λ j y. IsRight p (product_column c x j y)) right
            0 x.columns (placed numbers_of pairs x.columns h.numbers) (at_of_each (λ y. R (G (numbers_of y)) (unnumbered y)) 0 x.columns columns)),
      )
    where
      zip_columns : (R : Cochain → Column → Type 0) (G : ℕ × ℕ → Cochain) (ys : List PairColumn) → AllZip R (map G (map numbers_of ys)) (map unnumbered ys) → Each (λ y. R (G (numbers_of y)) (unnumbered y)) ys
      zip_columns R G [] h = tt
      zip_columns R G (y ∷ ys) h = (h.0, zip_columns R G ys h.1)

  -- ---- operations

  operation_right : (k : ℕ) (x : OperationPart) → Among x c.operations → slice_get (blocks p (ranks_of c)) k ≡ Some (block_of x) → IsOperationPart true c.facets p (classes_of c) x → Each (IsRight p) (operation_stated c k x)
  operation_right k x m at h =
      let live = of-blocks p (ranks_of c) (block_of x) (subst (λ (bs : List Block). Among (block_of x) bs) tables.operations (among_map block_of x (block_of x) c.operations m refl)) in
      let two : (k : ℕ) → op_of x ≡ Square k → p ≡ 2 = λ k e. eqb-true p 2 (and_parts (p == 2) (nat_le k x.from) (subst (λ (o : Op). is_defined p x.from o ≡ true) e live.defined)).0 in
      let zs : List Chain = classes_in (classes_of c) x.from in
      let R : Cochain → Column → Type 0 = IsOperationColumn true c.facets p (classes_of c) (block_of x) in
      let right : (j : ℕ) (y : Column) → (j < length zs) × R (cochain_of (get_or zs j [])) y → IsRight p (operation_column c x j y) = λ j y g.
      let sum : Cochain = column_sum p (listed c x.to) y.values y.primitive in
      let same = column_same c.facets x.to p (listed c x.to) g.1.result y.values y.primitive field.large g.1.is_column in
      let turned : AgreesOnSimplices c.facets (target_degree p x.from (op_of x)) p sum g.1.result =
      subst (λ (n : ℕ). AgreesOnSimplices c.facets n p sum g.1.result) live.target (record { at = λ s on. Congruent_sym (same.at s on) }) in
      let e : j ≡ (j + 1) - 1 = omega arith in
      let counted : IsColumnAt (rank_in c x.from) (rank_in c x.to) j y = record { inside = g.0; size = g.1.is_column.coordinates.count ∙ rank_is x.to } in
      let is : IsRightOperation c p x j y = record {
        on = primitive_on c.facets x.to p _ y.primitive (g.1.is_column.rest refl);
        same = subst (λ (i : ℕ). IsOperation c.facets p (op_of x) x.from (cochain_of (get_or zs i [])) sum) e (operation_alike c.facets p x.from (op_of x) (cochain_of (get_or zs j [])) g.1.result sum turned g.1.is_result two);
      } in
      (tt, tt, tt, tt, counted, is, tt, tt) in (
        (tt, tt, tt, tt, at, tt, tt, tt),
        columns_right p (operation_column c x) (λ y. y.primitive) 0 x.columns
            (at_map (λ j y. (j < length zs) × R (cochain_of (get_or zs j [])) y) (λ j y. IsRight p (operation_column c x j y)) right 0 x.columns (zip_places R cochain_of [] zs x.columns h)),
      )

  -- ---- Cartan lines

  right_answer : (x : CartanPart) (d : Cochain) → IsCartanDifference c.facets p x.a x.b x.n (class_at (classes_of c) x.a x.i) (class_at (classes_of c) x.b x.j) d → (answer : CartanAnswer) →
      IsAnswer true c.facets (line_degree p (line_of x)) p (classes_in (classes_of c) (line_degree p (line_of x))) d answer → IsRightAnswer c p x answer
  right_answer x d is (Yes primitive) h =
      let same = primitive_same c.facets (line_degree p (line_of x)) p d primitive (h.1 refl) in
      record {
        on = primitive_on c.facets (line_degree p (line_of x)) p d primitive (h.1 refl);
        difference = record {
          whole = is.whole;
          is_whole = is.is_whole;
          parts = is.parts;
          are_parts = is.are_parts;
          difference = record { at = λ s on. Congruent_trans (Congruent_sym (same.at s on)) (is.difference.at s on) };
        };
      }
  right_answer x d is (No value cycle) h =
      let n : ℕ = line_degree p (line_of x) in
      let zs : List Chain = classes_in (classes_of c) n in
      let k = h.cycle_of refl in
      let on = k.class.canonical.pivot.lead.on in
      let inside : h.place < length zs = (let i = h.first.inside in let j = h.coordinates.count in let l = length-map zs cochain_of in omega (arith, i, j, l)) in
      let closed = is_cycle c.facets ascending n p field k.pivot on cycle k.cycle_at in
      record {
        on = closed.chain.simplices;
        closed = closed.closed;
        difference = d;
        is_difference = is;
        pairs = Congruent_trans (reads c.facets ascending n p field k.pivot on cycle k.cycle_at zs (part.classes.each n (part.classes.whole n k.pivot on)) h.place inside k.class d h.values h.coordinates) (Congruent_of h.first.here);
      }

  cartan_right : (k : ℕ) (x : CartanPart) → slice_get (lines p (ranks_of c)) k ≡ Some (line_of x) → IsCartanPart true c.facets p (classes_of c) x → Each (IsRight p) (cartan_stated c k x)
  cartan_right k x at h = ((tt, tt, tt, tt, at, tt, tt, right_answer x h.difference h.is_difference x.answer h.is_answer), (chain_right x.answer, tt))
    where
      chain_right : (answer : CartanAnswer) → IsRight p (answer_stated answer)
      chain_right (Yes primitive) = (tt, tt, tt, tt, tt, tt, tt, tt)
      chain_right (No value cycle) = (tt, tt, tt, tt, tt, tt, tt, tt)

  -- ---- all lines

  ends_right : IsRight p (complex_ends c)
  ends_right =
      let all : (n : ℕ) → _ = λ n. listed_simplices_law.of_one_degree c.facets n ascending in
      let k = count in
      let degrees : HasItsDegrees c = record {
        inhabited = λ n b. let s = part.classes.inhabited n (omega (arith, b, k)) in let f = (all n).whole s.0 s.1 in let l = f.1 in omega arith;
        whole = λ n b. let w = part.classes.whole n (get_or (of_degree n (simplices c.facets)) 0 []) (each_get_or (IsSimplex c.facets n) (of_degree n (simplices c.facets)) 0 [] b (all n).sound) in omega (arith, w, k);
      } in
      let whole : IsComplexWhole p c = record {
        products = shorter product_of c.products (products (ranks_of c)) tables.products;
        operations = shorter block_of c.operations (blocks p (ranks_of c)) tables.operations;
        cartans = shorter line_of c.cartans (lines p (ranks_of c)) tables.cartans;
        product_columns = each_map (λ x (h : IsProductPart true c.facets p (classes_of c) x). shorter numbers_of x.columns (number_pairs (rank_in c x.a) (rank_in c x.b)) h.numbers) c.products tables.product_parts;
        operation_columns = each_map (λ x (h : IsOperationPart true c.facets p (classes_of c) x). let l = length_alike (IsOperationColumn true c.facets p (classes_of c) (block_of x)) (listed c x.from) x.columns h in let r = rank_is x.from in omega (arith, l, r)) c.operations tables.operation_parts;
      } in
      (tt, degrees, tt, tt, whole, tt, tt, tt)

  pub complex_right : (before : List ComplexPart) → IsNewComplex before c → Each (IsRight p) (behind (λ fs f. facet_stands fs f ∷ []) [] c.facets) → Each (IsRight p) (complex_stated before c)
  complex_right before new facets =
      let fs = behind (λ (fs : List (List ℕ)) f. facet_stands fs f ∷ []) [] c.facets in
      let ds = numbered (degree_stated c) 0 c.degrees in
      let xs = numbered (product_stated c) 0 c.products in
      let os = numbered (operation_stated c) 0 c.operations in
      let cs = numbered (cartan_stated c) 0 c.cartans in
      let es : List Stated = complex_ends c ∷ [] in (
        (new, tt, tt, tt, tt, tt, tt, tt),
        each_append (IsRight p) fs (ds ++ (xs ++ (os ++ (cs ++ es)))) facets
            (each_append (IsRight p) ds (xs ++ (os ++ (cs ++ es))) (each_numbered (IsRight p) (degree_stated c) 0 c.degrees (at_index (λ n d. Each (IsRight p) (degree_stated c n d)) no_degree c.degrees degree_right))
            (each_append (IsRight p) xs (os ++ (cs ++ es))
            (each_numbered (IsRight p) (product_stated c) 0 c.products
            (at_both (λ k x. slice_get (products (ranks_of c)) k ≡ Some (product_of x)) (λ k x. IsProductPart true c.facets p (classes_of c) x) (λ k x. Each (IsRight p) (product_stated c k x)) product_right 0 c.products
            (placed product_of (products (ranks_of c)) c.products tables.products) (at_of_each (IsProductPart true c.facets p (classes_of c)) 0 c.products tables.product_parts)))
            (each_append (IsRight p) os (cs ++ es)
            (each_numbered (IsRight p) (operation_stated c) 0 c.operations
            (at_both (λ k x. slice_get (blocks p (ranks_of c)) k ≡ Some (block_of x)) (λ k x. Among x c.operations × IsOperationPart true c.facets p (classes_of c) x) (λ k x. Each (IsRight p) (operation_stated c k x))
            (λ k x a h. operation_right k x h.0 a h.1) 0 c.operations (placed block_of (blocks p (ranks_of c)) c.operations tables.operations)
            (at_of_each (λ x. Among x c.operations × IsOperationPart true c.facets p (classes_of c) x) 0 c.operations
            (each_of_index (λ x. Among x c.operations × IsOperationPart true c.facets p (classes_of c) x) c.operations (λ x m. (m, each_among (IsOperationPart true c.facets p (classes_of c)) x c.operations tables.operation_parts m))))))
            (each_append (IsRight p) cs es
            (each_numbered (IsRight p) (cartan_stated c) 0 c.cartans
            (at_both (λ k x. slice_get (lines p (ranks_of c)) k ≡ Some (line_of x)) (λ k x. IsCartanPart true c.facets p (classes_of c) x) (λ k x. Each (IsRight p) (cartan_stated c k x)) cartan_right 0 c.cartans
            (placed line_of (lines p (ranks_of c)) c.cartans tables.cartans) (at_of_each (IsCartanPart true c.facets p (classes_of c)) 0 c.cartans tables.cartan_parts)))
            (ends_right, tt))))),
      )
