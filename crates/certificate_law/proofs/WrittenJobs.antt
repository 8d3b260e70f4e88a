-- The certificate of a job is well formed: so it is spelled, and read back. It has fewer than 2^64 lines.
use Rattle.std.{proofs.Common.{◌≡◌, ℕ, zero, suc, ◌+◌, ◌*◌, ◌^◌, not, ◌<◌, ◌≤◌, ◌==◌, ◌-◌, ◌&&◌, nat_le, true, IsTrue, inl, inr, refl, sym, ◌∙◌, ap, subst, arith, List, [], ◌∷◌, ◌++◌, length, map, get_or, flat_map, nat_lt, is_none, leb-true, length-append, lt-ltb, ltb-false, ltb-true}, specs.List.{AllZip, list_all}, specs.Ordering.is_lt, proofs.lemmas.Bool.{and_from, and_parts, cases_eq, cases_lt}, proofs.lemmas.List.length-map}
use Rattle.fp_field.specs.Served.{served}
use Rattle.signed_sum.{specs.Names.numbers_from, proofs.Names.length-numbers_from}
use Rattle.linear_law.{specs.Names.{Among, Each, IsAscending}, proofs.Names.{apart_short, among_map, each_among, each_append, each_get_or, each_map, each_of_map, each_right, length_alike, each_of_index}}
use Rattle.simplicial_law.{specs.Names.{IsInOrder, IsSimplex, Precedes, Chain, Cochain, IsCanonicalClass, AreCanonicalClasses, AreTerms, cochain_of, simplex_cmp}, specs.ListedSimplices.simplices, proofs.Names.simplices_whole}
use Rattle.steenrod_law.specs.Names.{pull_back}
use Rattle.certificate_law.{specs.Types.{ComplexBlock, MapBlock, Sent, CartanAnswer, Yes, No, CartanPart, Column, OpWord, OperationPart, ProductPart, ComplexPart, DegreePart, InducedPart, MapPart, Certificate, Report, Block, Line as CartanLine, Product, TextLine as Line, below_line, class_line, facet_line, done_line, end_line}, specs.Names.{FewLinesLaw, WellFormedLaw}, proofs.Building.at_index, proofs.CanonicalData.in_order_apart, proofs.CertifiedBases.{below_at, classes_at, no_degree}, proofs.FewLines.{AreFew, ascending_short, columns_long, few_blocks, few_lines_of, few_pairs, few_products, filter_short, flat_most, same_length, some_vertex}, proofs.JobBlocks.{FacetsFit, all_of, facets_fit, known_vertices, vertex_in}, proofs.JobLaw.kept_of, proofs.Places.EachAt, proofs.PivotCounts.{ascending_apart, simplex_same_or_not}}
use Rattle.complex_file.specs.{Names.{complex_fault, is_ascending, is_complex, is_facet, Spelled, image, is_vertex as is_vertex_of, are_distinct, facets_at, block_names, is_map, is_name, is_not_empty, name_at}, Jobs.is_job}
use Rattle.report.specs.declared.columns.OpWord.TheVariants as word
use Rattle.report_law.{specs.Names.{IsAnswer, IsColumn, IsPrimitive, IsPrimitiveAt, all_lines, blocks, class_numbers, degrees, has_class, is_defined, lines, lines_of_pair, products, Classes, IsOperationColumn, classes_in, cochains_in, line_degree, ranks, below_in, block_of, classes_of, op_named, op_of, line_of, number_pairs, numbers_of, product_of, ranks_of, unnumbered, AreTables, IsCartanPart, IsComplexPart, IsInducedPart, IsMapPart, IsMaximal, IsOperationPart, IsProductPart, IsReportOf}, proofs.Names.{has-degree, of-blocks, rank-of, get_or-past, of-filter, of-flat_map, of-map, of-numbers, IsMapOf, all-among, each-all, rest_in_order, ascends as ascending-list, complex-ascends, job-maps, no-fault}}
use Rattle.report_text_law.specs.{Names.{certificate_lines, complex_lines, degree_lines, degrees_from, columns_from, pair_lines, product_lines, operation_lines, answer_lines, cartan_lines, send_of, induced_lines, map_lines, are_values, ascends, is_chain, is_line, is_simplex, is_u32, is_term, is_unit, is_vertex, terms_ascend}, WellFormed.is_well_formed}

-- ---- lists of lines

abbrev IsFine : ℕ → Line → Type 0
IsFine p l = is_line p l ≡ true

all_fine : (p : ℕ) (ls : List Line) → Each (IsFine p) ls → list_all (is_line p) ls ≡ true
all_fine p ls h = all_of (is_line p) ls (λ l m. each_among (IsFine p) l ls h m)

each_flat : {X : Type 0} (P : Line → Type 0) (f : X → List Line) (xs : List X) → ((x : X) → Among x xs → Each P (f x)) → Each P (flat_map f xs)
each_flat P f [] h = tt
each_flat P f (x ∷ xs) h = each_append P (f x) (flat_map f xs) (h x (inl refl)) (each_flat P f xs (λ y m. h y (inr m)))

-- the lines are well formed, and at most so many
record Written (p most : ℕ) (ls : List Line) : Type 0 where
  fine : Each (IsFine p) ls
  few : length ls ≤ most

written_append : (p a b : ℕ) (xs ys : List Line) → Written p a xs → Written p b ys → Written p (a + b) (xs ++ ys)
written_append p a b xs ys v w = record {
  fine = each_append (IsFine p) xs ys v.fine w.fine;
  few = let e = length-append xs ys in let x = v.few in let y = w.few in omega (arith, e, x, y);
}

written_flat : {X : Type 0} (p k : ℕ) (P : X → Type 0) (f : X → List Line) (xs : List X) → ((x : X) → Among x xs → P x → Written p k (f x)) → Each P xs → Written p (k * length xs) (flat_map f xs)
written_flat p k P f xs g h = record {
  fine = each_flat (IsFine p) f xs (λ x m. (g x m (each_among P x xs h m)).fine);
  few = flat_most f k xs (λ x m. (g x m (each_among P x xs h m)).few);
}

written_end : (p : ℕ) → Written p 1 (end_line ∷ [])
written_end p = record { fine = (refl, tt); few = omega arith }

-- ---- numbers

small : (n : ℕ) → n ≤ 200000 → is_u32 n ≡ true
small n h = lt-ltb n (2 ^ 32) (omega (arith, h))

-- ---- simplices and chains

ascends_from : (vs : List ℕ) → IsAscending vs → ascends vs ≡ true
ascends_from (v ∷ w ∷ ws) h = and_from (nat_lt v w) (ascends (w ∷ ws)) (lt-ltb v w h.0.0) (ascends_from (w ∷ ws) h.1)
ascends_from _ h = refl

abbrev pub AreLow : List (List ℕ) → Type 0
AreLow facets = Each (λ f. list_all is_vertex f ≡ true) facets

low_vertices : (f s : List ℕ) → list_all is_vertex f ≡ true → Each (λ v. Among v f) s → list_all is_vertex s ≡ true
low_vertices f s h w = all_of is_vertex s (λ v m. all-among is_vertex f v h (each_among (λ v. Among v f) v s w m))

fine_simplex : (facets : List (List ℕ)) → AreLow facets → (n : ℕ) (s : List ℕ) → IsSimplex facets n s → is_simplex s ≡ true
fine_simplex facets low n [] h = absurd (let e = h.size in omega (arith, e))
fine_simplex facets low n (v ∷ vs) h =
    and_from (list_all is_vertex (v ∷ vs)) (ascends (v ∷ vs))
    (low_vertices h.facet (v ∷ vs) (each_among (λ f. list_all is_vertex f ≡ true) h.facet facets low h.listed) h.within) (ascends_from (v ∷ vs) h.ascending)

fine_facet : (f : List ℕ) → is_facet f ≡ true → is_simplex f ≡ true
fine_facet [] h = absurd cc
fine_facet (v ∷ vs) h =
    let parts = and_parts (is_ascending (v ∷ vs)) (list_all (λ v. nat_le v 999999) (v ∷ vs)) (and_parts (is_not_empty (v ∷ vs)) _ h).1 in
    and_from (list_all is_vertex (v ∷ vs)) (ascends (v ∷ vs)) parts.1 (ascends_from (v ∷ vs) (ascending-list (v ∷ vs) parts.0))

fine_terms : (facets : List (List ℕ)) → AreLow facets → (n p : ℕ) (ts : Chain) → Each (λ t. (0 < t.0) × (t.0 < p)) ts → Each (λ t. IsSimplex facets n t.1) ts → list_all (is_term p) ts ≡ true
fine_terms facets low n p ts h on =
    all_of (is_term p) ts (λ t m.
    let small = each_among (λ t. (0 < t.0) × (t.0 < p)) t ts h m in
    and_from (is_unit p t.0) (is_simplex t.1) (and_from (nat_lt 0 t.0) (nat_lt t.0 p) (lt-ltb 0 t.0 small.0) (lt-ltb t.0 p small.1)) (fine_simplex facets low n t.1 (each_among (λ t. IsSimplex facets n t.1) t ts on m)))

fine_order : (ts : Chain) → IsInOrder (map (λ t. t.1) ts) → terms_ascend ts ≡ true
fine_order (t ∷ u ∷ us) h =
    let first : Precedes t.1 u.1 = h 0 1 (omega arith) (omega arith) in
    and_from (is_lt (simplex_cmp t.1 u.1)) (terms_ascend (u ∷ us)) (ap is_lt first) (fine_order (u ∷ us) (rest_in_order t.1 (map (λ (t : ℕ × List ℕ). t.1) (u ∷ us)) h))
fine_order _ h = refl

fine_chain : (facets : List (List ℕ)) → AreLow facets → (n p : ℕ) (ts : Chain) → AreTerms facets n p ts → is_chain p ts ≡ true
fine_chain facets low n p ts h = and_from (list_all (is_term p) ts) (terms_ascend ts) (fine_terms facets low n p ts h.coefficients h.simplices) (fine_order ts h.in_order)

fine_primitive : (facets : List (List ℕ)) → AreLow facets → (n p : ℕ) (z : Cochain) (ts : Chain) → IsPrimitive facets n p z ts → is_chain p ts ≡ true
fine_primitive facets low zero p z ts h = ap (is_chain p) h.1
fine_primitive facets low (suc n) p z ts h = fine_chain facets low n p ts h.1

fine_values : (p : ℕ) (vs : List ℕ) → Each (λ v. v < p) vs → are_values p vs ≡ true
fine_values p [] h = refl
fine_values p (v ∷ vs) h = and_from (nat_lt v p) (are_values p vs) (lt-ltb v p h.0) (fine_values p vs h.1)

-- ---- columns

each_first : {X Y : Type 0} (R : X → Y → Type 0) (P : X → Type 0) → ((x : X) (y : Y) → R x y → P x) → (xs : List X) (ys : List Y) → AllZip R xs ys → Each P xs
each_first R P f [] [] h = tt
each_first R P f (x ∷ xs) (y ∷ ys) h = (f x y h.0, each_first R P f xs ys h.1)
each_first R P f _ _ h = absurd h

-- the values and the chain of a column are such
abbrev IsFineColumn : ℕ → Column → Type 0
IsFineColumn p y = (are_values p y.values ≡ true) × (is_chain p y.primitive ≡ true)

fine_column : (facets : List (List ℕ)) → AreLow facets → (n p : ℕ) (zs : List Cochain) (z : Cochain) (y : Column) → IsColumn true facets n p zs z y.values y.primitive → IsFineColumn p y
fine_column facets low n p zs z y h = (fine_values p y.values h.coordinates.small, fine_primitive facets low n p _ y.primitive (h.rest refl))

fine_columns : (p j : ℕ) (ys : List Column) → j + length ys ≤ 200000 → Each (IsFineColumn p) ys → Each (IsFine p) (columns_from j ys)
fine_columns p j [] few h = tt
fine_columns p j (y ∷ ys) few h =
    (and_from (is_u32 j) (are_values p y.values) (small j (omega (arith, few))) h.0.0, (h.0.1, fine_columns p (j + 1) ys (omega (arith, few)) h.1))

-- ---- live blocks and lines

low_product : (ranks : List ℕ) (x : Product) → Among x (products ranks) → (x.a < length ranks) × (x.b < length ranks)
low_product ranks x m =
    let f = of-filter (λ (y : Product). has_class ranks y.a && (has_class ranks y.b && has_class ranks (y.a + y.b))) (flat_map (λ a. map (λ b. record { a = a; b = b }) (degrees ranks)) (degrees ranks)) x m in
    let t = and_parts (has_class ranks x.a) (has_class ranks x.b && has_class ranks (x.a + x.b)) f.1 in
    (has-degree ranks x.a t.0, has-degree ranks x.b (and_parts (has_class ranks x.b) (has_class ranks (x.a + x.b)) t.1).0)

low_pair : (h k : ℕ) (t : ℕ × ℕ) → Among t (number_pairs h k) → (t.0 ≤ h) × (t.1 ≤ k)
low_pair h k t m =
    let i = of-flat_map (λ i. map (λ j. (i, j)) (numbers_from 1 k)) (numbers_from 1 h) t m in
    let j = of-map (λ j. (i.0, j)) (numbers_from 1 k) t i.2 in
    let a = of-numbers i.0 1 h i.1 in
    let b = of-numbers j.0 1 k j.1 in
    let e : i.0 ≡ t.0 = ap (λ (u : ℕ × ℕ). u.0) j.2 in
    let f : j.0 ≡ t.1 = ap (λ (u : ℕ × ℕ). u.1) j.2 in
    (omega (arith, a, e), omega (arith, b, f))

low_block : (p : ℕ) (ranks : List ℕ) (x : Block) → Among x (blocks p ranks) → (x.from < length ranks) × (x.to < length ranks)
low_block p ranks x m =
    let f = of-filter (λ (y : Block). has_class ranks y.from && has_class ranks y.to) _ x m in
    let t = and_parts (has_class ranks x.from) (has_class ranks x.to) f.1 in
    (has-degree ranks x.from t.0, has-degree ranks x.to t.1)

-- the numbers of a line
record IsLowLine (ranks : List ℕ) (l : CartanLine) : Type 0 where
  a : l.a < length ranks
  b : l.b < length ranks
  i : l.i ≤ get_or ranks l.a 0
  j : l.j ≤ get_or ranks l.b 0
  n : l.n ≤ l.a + l.b

low_line : (p : ℕ) (ranks : List ℕ) (l : CartanLine) → Among l (lines p ranks) → IsLowLine ranks l
low_line p ranks l m =
    let all = (of-filter (λ (k : CartanLine). _) (all_lines ranks) l m).0 in
    let a = of-flat_map (λ a. flat_map (λ b. flat_map (λ i. flat_map (lines_of_pair a b i) (class_numbers ranks b)) (class_numbers ranks a)) (degrees ranks)) (degrees ranks) l all in
    let b = of-flat_map (λ b. flat_map (λ i. flat_map (lines_of_pair a.0 b i) (class_numbers ranks b)) (class_numbers ranks a.0)) (degrees ranks) l a.2 in
    let i = of-flat_map (λ i. flat_map (lines_of_pair a.0 b.0 i) (class_numbers ranks b.0)) (class_numbers ranks a.0) l b.2 in
    let j = of-flat_map (lines_of_pair a.0 b.0 i.0) (class_numbers ranks b.0) l i.2 in
    let n = of-map (λ n. record { a = a.0; i = i.0; b = b.0; j = j.0; n = n }) (numbers_from 0 (a.0 + b.0 + 1)) l j.2 in
    let aa = of-numbers a.0 0 (length ranks) a.1 in
    let bb = of-numbers b.0 0 (length ranks) b.1 in
    let ii = of-numbers i.0 1 (get_or ranks a.0 0) i.1 in
    let jj = of-numbers j.0 1 (get_or ranks b.0 0) j.1 in
    let nn = of-numbers n.0 0 (a.0 + b.0 + 1) n.1 in
    subst (IsLowLine ranks) n.2 (record { a = omega (arith, aa); b = omega (arith, bb); i = omega (arith, ii); j = omega (arith, jj); n = omega (arith, nn) })

-- the number of an operation is at most its degree
low_number : (p q : ℕ) (w : OperationPart) → is_defined p q (op_of w) ≡ true → w.number ≤ q
low_number p q w h = number_of w.word h
  where
    number_of : (word : OpWord) → is_defined p q (op_named word w.number) ≡ true → w.number ≤ q
    number_of word.Sq k = leb-true w.number q (and_parts (p == 2) (nat_le w.number q) k).1
    number_of word.Power k = let l : 2 * w.number ≤ q = leb-true (2 * w.number) q (and_parts (not (p == 2)) (nat_le (2 * w.number) q) k).1 in omega (arith, l)
    number_of word.BocksteinPower k = let l : 2 * w.number < q = ltb-true (2 * w.number) q (and_parts (not (p == 2)) (nat_lt (2 * w.number) q) k).1 in omega (arith, l)

-- ---- a complex

module _ (p : ℕ) (b : ComplexBlock) (c : ComplexPart) (good : Each (λ f. is_facet f ≡ true) b.facets) (low : AreLow b.facets) (fit : FacetsFit b.facets) (ascending : Each IsAscending b.facets) (part : IsComplexPart true true p b c) where
  tables : AreTables true b.facets p (classes_of c) c
  tables = part.tables refl

  count : length (classes_of c) ≡ length c.degrees
  count = length-map c.degrees (λ (d : DegreePart). d.classes)

  short : (n : ℕ) (s : List ℕ) → IsSimplex b.facets n s → n < 16
  short n s on =
      let l = apart_short cases_eq s on.facet (ascending_apart s on.ascending) on.within in
      let size = on.size in
      let narrow = ltb-false 16 (length on.facet) (fit.narrow on.facet on.listed) in
      omega (arith, l, size, narrow)

  pub few_degrees : length (classes_of c) ≤ 16
  few_degrees = at_most (length (classes_of c)) (λ n l. let s = part.classes.inhabited n l in short n s.0 s.1)
    where
      at_most : (k : ℕ) → ((n : ℕ) → n < k → n < 16) → k ≤ 16
      at_most zero h = omega arith
      at_most (suc k) h = let l = h k (omega arith) in omega (arith, l)

  pub few_simplices : (n : ℕ) (ss : List (List ℕ)) → IsInOrder ss → Each (IsSimplex b.facets n) ss → length ss ≤ 100000
  few_simplices n [] order on = omega arith
  few_simplices n (s ∷ ss) order on =
      let l = apart_short simplex_same_or_not (s ∷ ss) (simplices b.facets) (in_order_apart (s ∷ ss) order) (each_map (λ t k. simplices_whole b.facets n t ascending k) (s ∷ ss) on) in
      let k = fit.few on.0.facet on.0.listed in
      omega (arith, l, k)

  few_listed : (n : ℕ) (zs : List Chain) → AreCanonicalClasses b.facets n p zs → length zs ≤ 100000
  few_listed n zs h =
      let R : List ℕ → Chain → Type 0 = λ s terms. IsCanonicalClass b.facets n p s (cochain_of terms) in
      let l = few_simplices n h.pivots h.in_order (each_first R (IsSimplex b.facets n) (λ s terms k. k.canonical.pivot.lead.on) h.pivots zs h.canonical) in
      let e = length_alike R h.pivots zs h.canonical in
      omega (arith, l, e)

  pub few_classes : (n : ℕ) → length (classes_in (classes_of c) n) ≤ 100000
  few_classes n = elim (cases_lt n (length (classes_of c))) [
    | inl l ↦ few_listed n (classes_in (classes_of c) n) (part.classes.each n l)
    | inr l ↦ (let e = ap (λ (zs : List Chain). length zs) (get_or-past (classes_of c) n [] l) in omega (arith, e))
  ]

  pub few : AreFew (ranks_of c)
  few = record {
    degrees = let l = few_degrees in let e = length-map (classes_of c) (λ (cs : List Chain). length cs) in omega (arith, l, e);
    classes = λ n. let l = few_classes n in let e = rank-of (classes_of c) n in omega (arith, l, e);
  }

  written_facets : Written p 100000 (map facet_line c.facets)
  written_facets = record {
    fine = each_of_map (IsFine p) facet_line c.facets (each_map (λ f k. fine_facet f (each_among (λ f. is_facet f ≡ true) f b.facets good k.given)) c.facets (part.facets refl).each);
    few = let l = few_maximal c.facets (part.facets refl).in_order (part.facets refl).each in let e = length-map c.facets facet_line in omega (arith, l, e);
  }
    where
      few_maximal : (fs : List (List ℕ)) → IsInOrder fs → Each (IsMaximal b.facets) fs → length fs ≤ 100000
      few_maximal [] order each = omega arith
      few_maximal (f ∷ fs) order each =
          let whole : (g : List ℕ) → Among g (f ∷ fs) → Among g (simplices b.facets) = λ g m.
          let given = (each_among (IsMaximal b.facets) g (f ∷ fs) each m).given in
          simplices_whole b.facets (length g - 1) g ascending (record {
            ascending = each_among IsAscending g b.facets ascending given;
            size = let l = some_vertex g (each_among (λ f. is_facet f ≡ true) g b.facets good given) in omega (arith, l);
            facet = g;
            listed = given;
            within = each_of_index (λ (v : ℕ). Among v g) g (λ v k. k);
          }) in
          let l = apart_short simplex_same_or_not (f ∷ fs) (simplices b.facets) (in_order_apart (f ∷ fs) order) (each_of_index (λ (g : List ℕ). Among g (simplices b.facets)) (f ∷ fs) whole) in
          let k = fit.few f each.0.given in
          omega (arith, l, k)

  written_degree : (n : ℕ) → n < length c.degrees → Written p 200001 (degree_lines n (get_or c.degrees n no_degree))
  written_degree n l =
      let d : DegreePart = get_or c.degrees n no_degree in
      let top = few_degrees in
      let h = few_classes n in
      let k = count in
      let here : n < length (classes_of c) = omega (arith, l, k) in
      let z = part.classes.each n here in
      let y = part.below refl n l in
      let R : List ℕ → Chain → Type 0 = IsPrimitiveAt b.facets n p in
      let belows : Each (λ ts. is_chain p ts ≡ true) d.below = subst (λ (ys : List Chain). Each (λ ts. is_chain p ts ≡ true) ys) (sym (below_at c n))
      (each_right R (λ ts. is_chain p ts ≡ true) (λ s ts q. fine_primitive b.facets low n p q.bound ts q.primitive) y.pivots (below_in c n) y.primitives) in
      let classes : Each (λ ts. is_chain p ts ≡ true) d.classes = subst (λ (zs : List Chain). Each (λ ts. is_chain p ts ≡ true) zs) (sym (classes_at c n))
      (each_map (λ ts q. fine_chain b.facets low n p ts q) (classes_in (classes_of c) n) z.terms) in
      let pivots = few_simplices n y.pivots y.are.in_order (each_map (λ s q. q.lead.on) y.pivots y.are.each) in
      let short = length_alike R y.pivots (below_in c n) y.primitives in
      let under = ap (λ (ys : List Chain). length ys) (below_at c n) in
      let rank = ap (λ (zs : List Chain). length zs) (classes_at c n) in
      let e = length-append (map below_line d.below) (map class_line d.classes) in
      let f = length-map d.below below_line in
      let g = length-map d.classes class_line in
      record {
        fine = (
          and_from (is_u32 (n + 1)) (is_u32 (length d.classes)) (small (n + 1) (omega (arith, here, top))) (small (length d.classes) (omega (arith, h, rank))),
          each_append (IsFine p) (map below_line d.below) (map class_line d.classes) (each_of_map (IsFine p) below_line d.below belows) (each_of_map (IsFine p) class_line d.classes classes),
        );
        few = omega (arith, h, pivots, short, under, rank, e, f, g);
      }

  written_degrees : (n : ℕ) (ds : List DegreePart) → EachAt (λ n d. Written p 200001 (degree_lines n d)) n ds → Written p (200001 * length ds) (degrees_from n ds)
  unfolding EachAt
  written_degrees n [] h = record { fine = tt; few = omega arith }
  written_degrees n (d ∷ ds) h =
      let all = written_append p 200001 (200001 * length ds) (degree_lines n d) (degrees_from (n + 1) ds) h.0 (written_degrees (n + 1) ds h.1) in
      record { fine = all.fine; few = let l = all.few in omega (arith, l) }

  written_product : (x : ProductPart) → Among x c.products → IsProductPart true b.facets p (classes_of c) x → Written p 30000000000 (product_lines x)
  written_product x m h =
      let at = low_product (ranks_of c) (product_of x) (subst (λ (xs : List Product). Among (product_of x) xs) tables.products (among_map product_of x (product_of x) c.products m refl)) in
      let top = few.degrees in
      let n : ℕ = x.a + x.b in
      let R : Cochain → Column → Type 0 = λ z y. IsColumn true b.facets n p (cochains_in (classes_of c) n) z y.values y.primitive in
      let columns = each_right R (IsFineColumn p) (λ z y q. fine_column b.facets low n p (cochains_in (classes_of c) n) z y q) _ (map unnumbered x.columns) h.block in
      let left = few_classes x.a in
      let right = few_classes x.b in
      let e = same_length numbers_of x.columns _ h.numbers in
      let many = few_pairs (length (classes_in (classes_of c) x.a)) (length (classes_in (classes_of c) x.b)) left right in
      let two = flat_most pair_lines 2 x.columns (λ y m. omega arith) in
      record {
        fine = (
          and_from (is_u32 x.a) (is_u32 x.b) (small x.a (let l = at.0 in omega (arith, l, top))) (small x.b (let l = at.1 in omega (arith, l, top))),
          each_flat (IsFine p) pair_lines x.columns (λ y k.
              let t = low_pair (length (classes_in (classes_of c) x.a)) (length (classes_in (classes_of c) x.b)) (numbers_of y)
              (subst (λ (ts : List (ℕ × ℕ)). Among (numbers_of y) ts) h.numbers (among_map numbers_of y (numbers_of y) x.columns k refl)) in
              let f : IsFineColumn p (unnumbered y) = each_among (IsFineColumn p) (unnumbered y) (map unnumbered x.columns) columns (among_map unnumbered y (unnumbered y) x.columns k refl) in
              let i = t.0 in
              let j = t.1 in
              (and_from (is_u32 y.i) (is_u32 y.j && are_values p y.values) (small y.i (omega (arith, i, left))) (and_from (is_u32 y.j) (are_values p y.values) (small y.j (omega (arith, j, right))) f.0), (f.1, tt))),
        );
        few = omega (arith, e, many, two);
      }

  written_operation : (x : OperationPart) → Among x c.operations → IsOperationPart true b.facets p (classes_of c) x → Written p 200001 (operation_lines x)
  written_operation x m h =
      let live : Among (block_of x) (blocks p (ranks_of c)) = subst (λ (bs : List Block). Among (block_of x) bs) tables.operations (among_map block_of x (block_of x) c.operations m refl) in
      let at = low_block p (ranks_of c) (block_of x) live in
      let k = low_number p x.from x (of-blocks p (ranks_of c) (block_of x) live).defined in
      let top = few.degrees in
      let R : Cochain → Column → Type 0 = IsOperationColumn true b.facets p (classes_of c) (block_of x) in
      let e = length_alike R (cochains_in (classes_of c) x.from) x.columns h in
      let f = length-map (classes_in (classes_of c) x.from) cochain_of in
      let r = few_classes x.from in
      let from = at.0 in
      let to = at.1 in
      let l = columns_long 1 x.columns in
      record {
        fine = (
          and_from (is_u32 x.number) (is_u32 x.from && is_u32 x.to) (small x.number (omega (arith, k, from, top)))
              (and_from (is_u32 x.from) (is_u32 x.to) (small x.from (omega (arith, from, top))) (small x.to (omega (arith, to, top)))),
          fine_columns p 1 x.columns (omega (arith, e, f, r))
              (each_right R (IsFineColumn p) (λ z y q. fine_column b.facets low x.to p (cochains_in (classes_of c) x.to) q.result y q.is_column) (cochains_in (classes_of c) x.from) x.columns h),
        );
        few = omega (arith, e, f, r, l);
      }

  written_cartan : (x : CartanPart) → Among x c.cartans → IsCartanPart true b.facets p (classes_of c) x → Written p 2 (cartan_lines x)
  written_cartan x m h =
      let at = low_line p (ranks_of c) (line_of x) (subst (λ (ls : List CartanLine). Among (line_of x) ls) tables.cartans (among_map line_of x (line_of x) c.cartans m refl)) in
      let top = few.degrees in
      let left = few.classes x.a in
      let right = few.classes x.b in
      let a = at.a in
      let b = at.b in
      let i = at.i in
      let j = at.j in
      let n = at.n in
      fine_answer (small x.a (omega (arith, a, top))) (small x.i (omega (arith, i, left))) (small x.b (omega (arith, b, top))) (small x.j (omega (arith, j, right))) (small x.n (omega (arith, n, a, b, top))) x.answer h.is_answer
    where
      degree : ℕ
      degree = line_degree p (line_of x)

      fine_answer : is_u32 x.a ≡ true → is_u32 x.i ≡ true → is_u32 x.b ≡ true → is_u32 x.j ≡ true → is_u32 x.n ≡ true → (answer : CartanAnswer)
          → IsAnswer true b.facets degree p (classes_in (classes_of c) degree) h.difference answer → Written p 2 (answer_lines x.a x.i x.b x.j x.n answer)
      fine_answer a i e j n (Yes primitive) k = record {
        fine = (and_from (is_u32 x.a) _ a (and_from (is_u32 x.i) _ i (and_from (is_u32 x.b) _ e (and_from (is_u32 x.j) (is_u32 x.n) j n))), (fine_primitive b.facets low degree p h.difference primitive (k.1 refl), tt));
        few = omega arith;
      }
      fine_answer a i e j n (No value cycle) k =
          let least : 0 < value = k.first.nonzero in
          let most : value < p = subst (λ (v : ℕ). v < p) k.first.here (each_get_or (λ v. v < p) k.values k.place 0 k.first.inside k.coordinates.small) in
          record {
            fine = (
              and_from (is_u32 x.a) _ a (and_from (is_u32 x.i) _ i (and_from (is_u32 x.b) _ e (and_from (is_u32 x.j) _ j (and_from (is_u32 x.n) (is_unit p value) n
                  (and_from (nat_lt 0 value) (nat_lt value p) (lt-ltb 0 value least) (lt-ltb value p most)))))),
              (fine_chain b.facets low degree p cycle (k.cycle_of refl).cycle_at.terms_are, tt),
            );
            few = omega arith;
          }

  written_complex : is_name b.name ≡ true → Written p 170000000000000 (complex_lines c)
  written_complex named =
      let degrees : Written p (200001 * length c.degrees) (degrees_from 0 c.degrees) = written_degrees 0 c.degrees (at_index (λ n d. Written p 200001 (degree_lines n d)) no_degree c.degrees written_degree) in
      let products = written_flat p 30000000000 (IsProductPart true b.facets p (classes_of c)) product_lines c.products written_product tables.product_parts in
      let operations = written_flat p 200001 (IsOperationPart true b.facets p (classes_of c)) operation_lines c.operations written_operation tables.operation_parts in
      let cartans = written_flat p 2 (IsCartanPart true b.facets p (classes_of c)) cartan_lines c.cartans written_cartan tables.cartan_parts in
      let rest = written_append p 100000 _ (map facet_line c.facets) _ written_facets
      (written_append p (200001 * length c.degrees) _ (degrees_from 0 c.degrees) _ degrees
      (written_append p (30000000000 * length c.products) _ (flat_map product_lines c.products) _ products
      (written_append p (200001 * length c.operations) _ (flat_map operation_lines c.operations) _ operations
      (written_append p (2 * length c.cartans) 1 (flat_map cartan_lines c.cartans) (end_line ∷ []) cartans (written_end p))))) in
      let all = rest.few in
      let d = few_degrees in
      let k = count in
      let x = same_length product_of c.products _ tables.products in
      let o = same_length block_of c.operations _ tables.operations in
      let l = same_length line_of c.cartans _ tables.cartans in
      let xs = few_products (ranks_of c) few in
      let os = few_blocks (ranks_of c) few p in
      let ls = few_lines_of (ranks_of c) few p in
      record { fine = (ap is_name part.name ∙ named, rest.fine); few = omega (arith, all, d, k, x, o, l, xs, os, ls) }

-- ---- a job

-- what is used of a complex of a job
pub record IsSound (b : ComplexBlock) : Type 0 where
  pub named : is_name b.name ≡ true
  pub good : Each (λ f. is_facet f ≡ true) b.facets
  pub low : AreLow b.facets
  pub fit : FacetsFit b.facets
  pub ascending : Each IsAscending b.facets

sound : (b : ComplexBlock) → is_name b.name ≡ true → is_complex b.facets ≡ true → IsSound b
sound b named h =
    let parts = and_parts (list_all is_facet b.facets) (is_none (complex_fault b.facets)) h in
    let good = each-all is_facet (λ f. is_facet f ≡ true) (λ f k. k) b.facets parts.0 in
    record {
      named = named;
      good = good;
      low = each_map (λ f k. (and_parts (is_ascending f) (list_all is_vertex f) (and_parts (is_not_empty f) _ k).1).1) b.facets good;
      fit = facets_fit b.facets (no-fault (complex_fault b.facets) parts.1);
      ascending = complex-ascends b.facets h;
    }

all_sound : (bs : List ComplexBlock) → list_all is_name (map (λ b. b.name) bs) ≡ true → list_all (λ b. is_complex b.facets) bs ≡ true → Each IsSound bs
all_sound [] h k = tt
all_sound (b ∷ bs) h k =
    let n = and_parts (is_name b.name) (list_all is_name (map (λ (b : ComplexBlock). b.name) bs)) h in
    let c = and_parts (is_complex b.facets) (list_all (λ (b : ComplexBlock). is_complex b.facets) bs) k in
    (sound b n.0 c.0, all_sound bs n.1 c.1)

split_names : (ns ms : List (List ℕ)) → list_all is_name (ns ++ ms) ≡ true → (list_all is_name ns ≡ true) × (list_all is_name ms ≡ true)
split_names [] ms h = (refl, h)
split_names (n ∷ ns) ms h =
    let parts = and_parts (is_name n) (list_all is_name (ns ++ ms)) h in
    let rest = split_names ns ms parts.1 in
    (and_from (is_name n) (list_all is_name ns) parts.0 rest.0, rest.1)

-- what is used of a job
pub record IsWritable (job : Spelled) : Type 0 where
  pub prime : IsTrue (served job.prime)
  pub complexes : Each IsSound job.complexes
  pub names : list_all is_name (map (λ m. m.name) job.maps) ≡ true

pub writable : (job : Spelled) → is_job job.prime job.complexes job.maps ≡ true → IsWritable job
unfolding is_job
writable job h =
    let a = (and_parts (served job.prime) _ h).1 in
    let c = and_parts (list_all is_name (block_names job.complexes job.maps) && are_distinct (block_names job.complexes job.maps)) _ (and_parts (nat_le (length job.complexes) 8 && nat_le (length job.maps) 8) _ a).1 in
    let names = split_names (map (λ (c : ComplexBlock). c.name) job.complexes) (map (λ (m : MapBlock). m.name) job.maps) (and_parts (list_all is_name (block_names job.complexes job.maps)) _ c.0).0 in
    record {
      prime = (and_parts (served job.prime) _ h).0;
      complexes = all_sound job.complexes names.0 (and_parts (list_all (λ (b : ComplexBlock). is_complex b.facets) job.complexes) (list_all (is_map job.complexes) job.maps) c.1).0;
      names = names.1;
    }

-- ---- maps

name_good : (bs : List ComplexBlock) (k : ℕ) → k < length bs → Each IsSound bs → is_name (name_at bs k) ≡ true
name_good bs k l h = (each_get_or IsSound bs k _ l h).named

low_from : (facets : List (List ℕ)) → AreLow facets → (v : ℕ) → is_vertex_of facets v ≡ true → is_vertex v ≡ true
low_from facets low v h =
    let on = vertex_in v facets h in
    all-among is_vertex on.0 v (each_among (λ f. list_all is_vertex f ≡ true) on.0 facets low on.1) on.2

low_facets : (bs : List ComplexBlock) (k : ℕ) → Each IsSound bs → AreLow (facets_at bs k)
low_facets [] k h = tt
low_facets (b ∷ bs) zero h = h.0.low
low_facets (b ∷ bs) (suc k) h = low_facets bs k h.1

pub few_degrees_at : (p : ℕ) (bs : List ComplexBlock) (cs : List ComplexPart) (k : ℕ) → Each IsSound bs → AllZip (IsComplexPart true true p) bs cs → AreFew (ranks (get_or (map classes_of cs) k []))
few_degrees_at p [] [] k h z = record { degrees = omega arith; classes = λ n. omega arith }
few_degrees_at p (b ∷ bs) (c ∷ cs) zero h z = few p b c h.0.good h.0.low h.0.fit h.0.ascending z.0
few_degrees_at p (b ∷ bs) (c ∷ cs) (suc k) h z = few_degrees_at p bs cs k h.1 z.1
few_degrees_at p _ _ k h z = absurd z

module _ (job : Spelled) (kept : IsWritable job) (cs : List ComplexPart) (all_parts : AllZip (IsComplexPart true true job.prime) job.complexes cs) (b : MapBlock) (m : MapPart) (named : is_name b.name ≡ true) (is : IsMapOf job.complexes b)
    (part : IsMapPart true job (map classes_of cs) b m) where
  abbrev from_classes : Classes
  from_classes = get_or (map classes_of cs) b.from []

  abbrev to_classes : Classes
  to_classes = get_or (map classes_of cs) b.to []

  pub fine_send : (s : Sent) → Among s m.sends → IsFine job.prime (send_of s)
  fine_send s k =
      let F = facets_at job.complexes b.from in
      let G = facets_at job.complexes b.to in
      let known = each_among (λ (s : Sent). (is_vertex_of F s.from ≡ true) × (is_vertex_of G s.to ≡ true)) s b.sends (known_vertices F G [] 0 b.sends is.free)
      (each_among (λ (s : Sent). Among s b.sends) s m.sends (part.sends refl).each k) in
      and_from (is_vertex s.from) (is_vertex s.to) (low_from F (low_facets job.complexes b.from kept.complexes) s.from known.0) (low_from G (low_facets job.complexes b.to kept.complexes) s.to known.1)

  written_induced : (x : InducedPart) → Among x m.induced → IsInducedPart true (image b.sends) (facets_at job.complexes b.from) job.prime from_classes to_classes x → Written job.prime 200001 (induced_lines x)
  written_induced x k h =
      let p : ℕ = job.prime in
      let live = of-filter (λ q. has_class (ranks from_classes) q && has_class (ranks to_classes) q) (degrees (ranks from_classes)) x.q
      (subst (λ (qs : List ℕ). Among x.q qs) part.induced (among_map (λ (x : InducedPart). x.q) x x.q m.induced k refl)) in
      let q = of-numbers x.q 0 (length (ranks from_classes)) live.0 in
      let top = (few_degrees_at p job.complexes cs b.from kept.complexes all_parts).degrees in
      let rank = (few_degrees_at p job.complexes cs b.to kept.complexes all_parts).classes x.q in
      let r = rank-of to_classes x.q in
      let f = facets_at job.complexes b.from in
      let R : Cochain → Column → Type 0 = λ z y. IsColumn true f x.q p (cochains_in from_classes x.q) (pull_back (image b.sends) z) y.values y.primitive in
      let e = length_alike R (cochains_in to_classes x.q) x.columns h in
      let n = length-map (classes_in to_classes x.q) cochain_of in
      let l = columns_long 1 x.columns in
      record {
        fine = (
          small x.q (omega (arith, q, top)),
          fine_columns p 1 x.columns (omega (arith, e, n, r, rank))
              (each_right R (IsFineColumn p) (λ z y q. fine_column f (low_facets job.complexes b.from kept.complexes) x.q p (cochains_in from_classes x.q) _ y q) (cochains_in to_classes x.q) x.columns h),
        );
        few = omega (arith, e, n, r, rank, l);
      }

  few_sends : length m.sends ≤ 1000000
  few_sends =
      let low = each_of_map (λ v. v < 1000000) (λ (s : Sent). s.from) m.sends (each_of_index (λ (s : Sent). s.from < 1000000) m.sends (λ s k.
      let v = leb-true s.from 999999 (and_parts (is_vertex s.from) (is_vertex s.to) (fine_send s k)).0 in omega (arith, v))) in
      let l = ascending_short 1000000 (map (λ (s : Sent). s.from) m.sends) (part.sends refl).ascending low in
      let e = length-map m.sends (λ (s : Sent). s.from) in
      omega (arith, l, e)

  written_map : Written job.prime 5000000 (map_lines m)
  written_map =
      let p : ℕ = job.prime in
      let sends : Written p 1000000 (map send_of m.sends) = record {
        fine = each_of_map (IsFine p) send_of m.sends (each_of_index (λ (s : Sent). IsFine p (send_of s)) m.sends fine_send);
        few = let l = few_sends in let s = length-map m.sends send_of in omega (arith, l, s);
      } in
      let blocks = written_flat p 200001 (IsInducedPart true (image b.sends) (facets_at job.complexes b.from) p from_classes to_classes) induced_lines m.induced written_induced part.induced_parts in
      let rest = written_append p 1000000 _ (map send_of m.sends) _ sends (written_append p (200001 * length m.induced) 1 (flat_map induced_lines m.induced) (end_line ∷ []) blocks (written_end p)) in
      let all = rest.few in
      let e = same_length (λ (x : InducedPart). x.q) m.induced _ part.induced in
      let f = filter_short (λ q. has_class (ranks from_classes) q && has_class (ranks to_classes) q) (degrees (ranks from_classes)) in
      let n = length-numbers_from 0 (length (ranks from_classes)) in
      let top = (few_degrees_at p job.complexes cs b.from kept.complexes all_parts).degrees in
      record {
        fine = (
          and_from (is_name m.name) (is_name m.from && is_name m.to) (ap is_name part.name ∙ named)
              (and_from (is_name m.from) (is_name m.to) (ap is_name part.from_name ∙ name_good job.complexes b.from is.from kept.complexes) (ap is_name part.to_name ∙ name_good job.complexes b.to is.to kept.complexes)),
          rest.fine,
        );
        few = omega (arith, all, e, f, n, top);
      }

-- ---- the report

module _ (job : Spelled) (kept : IsWritable job) (cs : List ComplexPart) (all : AllZip (IsComplexPart true true job.prime) job.complexes cs) where
  written_complexes : (bs : List ComplexBlock) (ds : List ComplexPart) → Each IsSound bs → AllZip (IsComplexPart true true job.prime) bs ds → Written job.prime (170000000000000 * length bs) (flat_map complex_lines ds)
  written_complexes [] [] s h = record { fine = tt; few = omega arith }
  written_complexes (b ∷ bs) (d ∷ ds) s h =
      let both = written_append job.prime 170000000000000 _ (complex_lines d) (flat_map complex_lines ds) (written_complex job.prime b d s.0.good s.0.low s.0.fit s.0.ascending h.0 s.0.named) (written_complexes bs ds s.1 h.1) in
      record { fine = both.fine; few = let l = both.few in omega (arith, l) }
  written_complexes _ _ s h = absurd h

  written_maps : (bs : List MapBlock) (ms : List MapPart) → list_all is_name (map (λ m. m.name) bs) ≡ true → Each (IsMapOf job.complexes) bs → AllZip (IsMapPart true job (map classes_of cs)) bs ms
      → Written job.prime (5000000 * length bs) (flat_map map_lines ms)
  written_maps [] [] n s h = record { fine = tt; few = omega arith }
  written_maps (b ∷ bs) (m ∷ ms) n s h =
      let names = and_parts (is_name b.name) (list_all is_name (map (λ (m : MapBlock). m.name) bs)) n in
      let both = written_append job.prime 5000000 _ (map_lines m) (flat_map map_lines ms) (written_map job kept cs all b m names.0 s.0 h.0) (written_maps bs ms names.1 s.1 h.1) in
      record { fine = both.fine; few = let l = both.few in omega (arith, l) }
  written_maps _ _ n s h = absurd h

written_job : (job : Spelled) (r : Report) → is_job job.prime job.complexes job.maps ≡ true → IsReportOf Certificate job r
    → Written job.prime (170000000000000 * length job.complexes + (5000000 * length job.maps + 3)) (certificate_lines job.prime r.complexes r.maps)
written_job job r is h =
    let p : ℕ = job.prime in
    let kept = writable job is in
    let done : Written p 1 (done_line ∷ []) = record { fine = (refl, tt); few = omega arith } in
    let rest = written_append p _ _ (flat_map complex_lines r.complexes) _ (written_complexes job kept r.complexes h.complexes job.complexes r.complexes kept.complexes h.complexes)
    (written_append p _ 1 (flat_map map_lines r.maps) (done_line ∷ []) (written_maps job kept r.complexes h.complexes job.maps r.maps kept.names (job-maps p job.complexes job.maps is) (h.maps refl)) done) in
    let all = rest.few in
    record { fine = (refl, (kept.prime, rest.fine)); few = omega (arith, all) }

pub well_formed_law : WellFormedLaw
unfolding is_well_formed
well_formed_law job r is h =
    subst (λ (q : ℕ). list_all (is_line q) (certificate_lines q r.complexes r.maps) ≡ true) (sym h.prime)
    (all_fine job.prime (certificate_lines job.prime r.complexes r.maps) (written_job job r is h).fine)

pub few_lines_law : FewLinesLaw
few_lines_law job r is h =
    let counts = kept_of job.prime job.complexes job.maps is in
    let a = counts.complexes in
    let b = counts.maps in
    let all = (written_job job r is h).few in
    omega (arith, all, a, b)
