-- Chains and columns as they are kept, and as they are listed.
use Rattle.std.{proofs.Common.{◌≡◌, ◌∙◌, ℕ, zero, suc, ◌+◌, ◌*◌, ◌-◌, ◌<◌, inl, inr, Bool, List, [], ◌∷◌, ◌++◌, length, map, take, get_or, arith, refl, sym, ap, ap₂, subst, IsTrue, slice_get, Some, None, flat_map, length-append}, specs.declared.option.Option.Option, specs.List.AllZip, proofs.lemmas.Bool.cases_lt, proofs.lemmas.List.length-map}
use Rattle.signed_sum.specs.Names.{numbers_from}
use Rattle.linear_law.{specs.Names.Each, proofs.Names.{each_map, each_of_map, each_unmap}}
use Rattle.simplicial_law.{specs.Names.{IsSimplex, Chain, Cochain as SimplexCochain, IsCanonicalPrimitive, IsCoboundaryPivot, AreTerms, cochain_of, terms_of}, proofs.Names.{no_bounds, ordered_places}}
use Rattle.sparse_rows.specs.Rows.{IsBelow}
use Rattle.steenrod_law.specs.Names.{cochain_products, cup_product}
use Rattle.complex_index.specs.{declared.indexed.Cochain.Cochain, Names.{IsIndexOf, level}}
use Rattle.cohomology.specs.{declared.basis.Column.Column, declared.data.Coboundary.Coboundary, Names.{IsPlaced, cochain_in, AreCoboundaries, IsCoboundaryOf, IsPlacedCoboundary, pivot_in}}
use Rattle.report_law.{specs.Types.{CartanAnswer, Yes, No, Column as ListedColumn}, specs.Names.{ArePrimitives, IsAnswer, IsColumn, IsCycleOf, IsPrimitive, IsPrimitiveAt, rest_of, number_pairs}, proofs.Names.get_or-past}
use Rattle.op_matrix.{specs.Columns.{listed_column, primitive_terms}, proofs.ColumnLemmas.terms}
use Rattle.cartan_check.specs.{declared.Verdict.Verdict, declared.Verdict.TheVariants.{Yes as Primitive, No as Cycle}, Verdicts.{cycle_terms, listed_answer}}
use Rattle.class_matrices.proofs.ListLemmas.{numbers-length}
use Rattle.job_report.specs.{Listed.{IsInside, IsListedColumn}, Parts.{IsInsideVerdict, IsSameAnswer}}

-- ---- places

module _ (facets : List (List ℕ)) (levels : List (List (List ℕ))) (p : ℕ) where
  -- terms of a row are simplices only where the places are inside
  pub terms-inside : (n : ℕ) (row : List (ℕ × ℕ)) → AreTerms facets n p (terms_of (level levels n) row) → IsBelow (length (level levels n)) row
  terms-inside n row h = each_map inside row (each_unmap (λ (t : ℕ × List ℕ). IsSimplex facets n t.1) (λ (e : ℕ × ℕ). (e.1, get_or (level levels n) e.0 [])) row h.simplices)
    where
      inside : (e : ℕ × ℕ) → IsSimplex facets n (get_or (level levels n) e.0 []) → e.0 < length (level levels n)
      inside e on = elim (cases_lt e.0 (length (level levels n))) [
        | inl l ↦ l
        | inr m ↦ let k = on.size in let z = ap (λ (s : List ℕ). length s) (get_or-past (level levels n) e.0 [] m) in absurd (omega (arith, k, z))
      ]

  none-inside : (m : ℕ) (here : List (List ℕ)) (row : List (ℕ × ℕ)) → terms_of here row ≡ [] → IsBelow m row
  none-inside m here [] e = tt
  none-inside m here (x ∷ row) e = absurd cc

  pub primitive-inside : (n : ℕ) (z : SimplexCochain) (o : Option (Cochain p)) → IsPrimitive facets n p z (primitive_terms {p = p} levels n o) → IsInside {p = p} levels (n - 1) o
  primitive-inside n z None h = tt
  primitive-inside zero z (Some y) h = none-inside (length (level levels 0)) (level levels (0 - 1)) y.row h.1
  primitive-inside (suc n) z (Some y) h =
      let e : suc n - 1 ≡ n = omega arith in
      subst (λ (m : ℕ). IsBelow (length (level levels m)) y.row) (sym e)
      (terms-inside n y.row (subst (λ (m : ℕ). AreTerms facets n p (terms_of (level levels m) y.row)) e h.1))

  pub columns-inside : {Z : Type 0} (detailed : Bool) (n : ℕ) (R : Z → ListedColumn → Type 0) → ((z : Z) (d : ListedColumn) → R z d → (w : SimplexCochain) × (IsTrue detailed → IsPrimitive facets n p w d.primitive))
      → (zs : List Z) (cs : List (Column p)) → AllZip R zs (map (λ (c : Column p). listed_column {p = p} levels n c) cs) → Each (λ (c : Column p). IsTrue detailed → IsInside {p = p} levels (n - 1) c.primitive) cs
  columns-inside detailed n R f [] [] h = tt
  columns-inside detailed n R f [] (c ∷ cs) h = absurd h
  columns-inside detailed n R f (z ∷ zs) [] h = absurd h
  columns-inside detailed n R f (z ∷ zs) (c ∷ cs) h =
      ((λ t. let w = f z (listed_column {p = p} levels n c) h.0 in primitive-inside n w.0 c.primitive (w.1 t)), columns-inside detailed n R f zs cs h.1)

  pub verdict-inside : (detailed : Bool) (n : ℕ) (classes : List Chain) (d : SimplexCochain) (v : Verdict p) → IsAnswer detailed facets n p classes d (listed_answer {p = p} levels n v) → IsTrue detailed → IsInsideVerdict {p = p} levels n v
  verdict-inside detailed n classes d (Primitive o) h t = primitive-inside n d o (h.1 t)
  verdict-inside detailed n classes d (Cycle value o) h t = go o (h.cycle_of t).cycle_at.terms_are
    where
      go : (k : Option (Cochain p)) → AreTerms facets n p (cycle_terms {p = p} levels n k) → IsInside {p = p} levels n k
      go None a = tt
      go (Some y) a = terms-inside n y.row a

-- ---- what is listed

pub kept-primitive : {p : ℕ} (levels : List (List (List ℕ))) (n : ℕ) (o : Option (Cochain p)) → cycle_terms {p = p} levels (n - 1) o ≡ primitive_terms {p = p} levels n o
kept-primitive levels n None = refl
kept-primitive levels n (Some y) = refl

-- what holds of the columns of a report, where primitives count only where they are listed, holds of listed columns
pub relisted : {Z : Type 0} {p : ℕ} (detailed : Bool) (levels : List (List (List ℕ))) (n : ℕ) (R : Z → ListedColumn → Type 0)
    → ((z : Z) (c d : ListedColumn) → d.values ≡ c.values → (IsTrue detailed → d.primitive ≡ c.primitive) → R z c → R z d)
    → (zs : List Z) (cs : List (Column p)) (ds : List ListedColumn) → AllZip R zs (map (λ (c : Column p). listed_column {p = p} levels n c) cs) → AllZip (IsListedColumn {p = p} detailed levels n) cs ds → AllZip R zs ds
relisted detailed levels n R f [] [] [] h k = tt
relisted detailed levels n R f [] [] (d ∷ ds) h k = absurd k
relisted detailed levels n R f [] (c ∷ cs) ds h k = absurd h
relisted detailed levels n R f (z ∷ zs) [] ds h k = absurd h
relisted detailed levels n R f (z ∷ zs) (c ∷ cs) [] h k = absurd k
relisted {p = p} detailed levels n R f (z ∷ zs) (c ∷ cs) (d ∷ ds) h k =
    (f z (listed_column {p = p} levels n c) d k.0.values k.0.primitive h.0, relisted detailed levels n R f zs cs ds h.1 k.1)

module _ (detailed : Bool) (facets : List (List ℕ)) (n p : ℕ) where
  pub column-alike : (zs : List SimplexCochain) (z : SimplexCochain) (c d : ListedColumn) → d.values ≡ c.values → (IsTrue detailed → d.primitive ≡ c.primitive)
      → IsColumn detailed facets n p zs z c.values c.primitive → IsColumn detailed facets n p zs z d.values d.primitive
  column-alike zs z c d e f h =
      subst (λ (vs : List ℕ). IsColumn detailed facets n p zs z vs d.primitive) (sym e)
      (record { coordinates = h.coordinates; rest = λ t. subst (λ (ts : Chain). IsPrimitive facets n p (rest_of p zs z c.values) ts) (sym (f t)) (h.rest t) })

  pub answer-alike : (classes : List Chain) (d : SimplexCochain) (a b : CartanAnswer) → IsSameAnswer detailed a b → IsAnswer detailed facets n p classes d a → IsAnswer detailed facets n p classes d b
  answer-alike classes d (Yes x) (Yes y) e h = (h.0, λ t. subst (λ (ts : Chain). IsPrimitive facets n p d ts) (sym (e t)) (h.1 t))
  answer-alike classes d (Yes x) (No w y) e h = absurd e
  answer-alike classes d (No v x) (Yes y) e h = absurd e
  answer-alike classes d (No v x) (No w y) e h = record {
    values = h.values;
    coordinates = h.coordinates;
    place = h.place;
    first = record { inside = h.first.inside; here = h.first.here ∙ sym e.0; nonzero = rw e.0 h.first.nonzero; before = h.first.before };
    cycle_of = λ t. subst (λ (ts : Chain). IsCycleOf facets n p (cochain_of (get_or classes h.place [])) ts) (sym (e.1 t)) (h.cycle_of t);
  }

-- ---- primitives of coboundaries

module _ (facets : List (List ℕ)) (levels : List (List (List ℕ))) (p : ℕ) (is : IsIndexOf facets levels) where
  abbrev below-chain : ℕ → Coboundary p → Chain
  below-chain n b = terms_of (level levels (n - 1)) b.primitive.row

  primitive-at : (n : ℕ) (b : Coboundary p) → IsPlacedCoboundary p levels n b → IsCoboundaryOf facets p levels n b → IsPrimitiveAt facets n p (pivot_in (level levels n) b) (below-chain n b)
  primitive-at zero b w k = absurd (no_bounds facets p (pivot_in (level levels zero) b) k.coboundary.pivot)
  primitive-at (suc n) b w k =
      let e : suc n - 1 ≡ n = omega arith in
      let z : SimplexCochain = cochain_in levels (suc n) b.cochain.row in
      let P : ℕ → Type 0 = λ m. IsCanonicalPrimitive facets n p z (cochain_of (terms_of (level levels m) b.primitive.row)) × AreTerms facets n p (terms_of (level levels m) b.primitive.row) in
      let at_n : P n = (
        subst (λ (m : ℕ). IsCanonicalPrimitive facets m p z (cochain_in levels m b.primitive.row)) e k.primitive,
        terms facets levels p is n b.primitive.row (subst (λ (m : ℕ). IsBelow (length (level levels m)) b.primitive.row) e w.primitive.inside) w.primitive.row_is,
      ) in
      record { bound = z; canonical = k.coboundary; primitive = subst P (sym e) at_n }

  primitives-at : (n : ℕ) (bs : List (Coboundary p)) → Each (IsPlacedCoboundary p levels n) bs → Each (IsCoboundaryOf facets p levels n) bs
      → AllZip (IsPrimitiveAt facets n p) (map (pivot_in (level levels n)) bs) (map (below-chain n) bs)
  primitives-at n [] a b = tt
  primitives-at n (x ∷ xs) a b = (primitive-at n x a.0 b.0, primitives-at n xs a.1 b.1)

  pub primitives-are : (n : ℕ) (bs : List (Coboundary p)) → AreCoboundaries p levels n bs → ArePrimitives facets n p (map (below-chain n) bs)
  primitives-are n bs h = record {
    pivots = map (pivot_in (level levels n)) bs;
    are = record {
      in_order = ordered_places (level levels n) (is.in_order n) (λ (b : Coboundary p). b.pivot) bs h.placed.ascends (each_map (λ b q. q.pivot) bs h.placed.each);
      each = each_of_map (IsCoboundaryPivot facets n p) (pivot_in (level levels n)) bs (each_map (λ b k. k.coboundary.pivot) bs (h.each facets is));
      all = λ s q. h.all facets s is q;
    };
    primitives = primitives-at n bs h.placed.each (h.each facets is);
  }

-- the primitive at a place, and one more of them
pub primitive-placed : (p : ℕ) (levels : List (List (List ℕ))) (n : ℕ) (bs : List (Coboundary p)) (t : ℕ) (y : Cochain p) → slice_get (map (λ (b : Coboundary p). b.primitive) bs) t ≡ Some y → Each (IsPlacedCoboundary p levels n) bs → IsPlaced p levels (n - 1) y
primitive-placed p levels n [] t y e h = absurd cc
primitive-placed p levels n (b ∷ bs) zero y e h = let q : b.primitive ≡ y = cc in subst (IsPlaced p levels (n - 1)) q h.0.primitive
primitive-placed p levels n (b ∷ bs) (suc t) y e h = primitive-placed p levels n bs t y e h.1

pub primitives-more : (p : ℕ) (here : List (List ℕ)) (bs : List (Coboundary p)) (t : ℕ) (y : Cochain p) (c : Chain) (ys new : List Chain) → t < length bs → slice_get (map (λ (b : Coboundary p). b.primitive) bs) t ≡ Some y
    → ys ≡ map (λ (b : Coboundary p). terms_of here b.primitive.row) (take t bs) → c ≡ terms_of here y.row → new ≡ ys ++ c ∷ [] → new ≡ map (λ (b : Coboundary p). terms_of here b.primitive.row) (take (t + 1) bs)
primitives-more p here bs t y c ys new l at h e is = is ∙ ap₂ (λ (xs : List Chain) (x : Chain). xs ++ x ∷ []) h e ∙ sym (go bs t l at)
  where
    f : Coboundary p → Chain
    f b = terms_of here b.primitive.row

    step : (ds : List (Coboundary p)) (k : ℕ) → k < length ds → slice_get (map (λ (b : Coboundary p). b.primitive) ds) k ≡ Some y → map f (take (suc k) ds) ≡ map f (take k ds) ++ terms_of here y.row ∷ []
    step [] k m a = absurd (omega (arith, m))
    step (d ∷ ds) zero m a = let q : d.primitive ≡ y = cc in ap (λ (z : Cochain p). terms_of here z.row ∷ []) q
    step (d ∷ ds) (suc k) m a = ap (λ (xs : List Chain). f d ∷ xs) (step ds k (omega (arith, m)) a)

    go : (ds : List (Coboundary p)) (k : ℕ) → k < length ds → slice_get (map (λ (b : Coboundary p). b.primitive) ds) k ≡ Some y → map f (take (k + 1) ds) ≡ map f (take k ds) ++ terms_of here y.row ∷ []
    go ds k m a = let q : suc k ≡ k + 1 = omega arith in subst (λ (i : ℕ). map f (take i ds) ≡ map f (take k ds) ++ terms_of here y.row ∷ []) q (step ds k m a)

-- ---- the numbers of products

flat-count : {X Y Z : Type 0} (f : X → Y → Z) (xs : List X) (ys : List Y) → length (flat_map (λ x. map (f x) ys) xs) ≡ length xs * length ys
flat-count f [] ys = omega arith
flat-count f (x ∷ xs) ys =
    let h = length-append (map (f x) ys) (flat_map (λ x. map (f x) ys) xs) in
    let k = length-map ys (f x) in
    let l = flat-count f xs ys in omega (arith, h, k, l)

pub pairs-count : (p a b : ℕ) (zs ws : List SimplexCochain) → length (number_pairs (length zs) (length ws)) ≡ length (cochain_products p a b zs ws)
pairs-count p a b zs ws =
    let h = flat-count (λ (i j : ℕ). (i, j)) (numbers_from 1 (length zs)) (numbers_from 1 (length ws)) in
    let k = flat-count (cup_product p a b) zs ws in
    h ∙ ap₂ (λ (x y : ℕ). x * y) (numbers-length 1 (length zs)) (numbers-length 1 (length ws)) ∙ sym k
