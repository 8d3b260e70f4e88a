-- The classes of a complex as they are kept by place, and as they are listed.
use Rattle.std.{proofs.Common.{◌≡◌, ◌∙◌, ℕ, zero, suc, ◌+◌, ◌-◌, ◌<◌, ◌≤◌, inl, inr, List, [], ◌∷◌, ◌++◌, length, map, take, get_or, arith, refl, sym, ap, ap₂, subst, Bool, IsTrue, slice_get, Some}, specs.List.AllZip, proofs.lemmas.Bool.cases_lt, proofs.lemmas.List.{length-map, map-append, take_more}, proofs.lemmas.Simd.map-map}
use Rattle.signed_sum.specs.Names.{numbers_from}
use Rattle.linear_law.{specs.Names.{Among, Each, IsAscending}, proofs.Names.{each_among, each_get_or, each_itself, length_alike}}
use Rattle.simplicial_law.{specs.Names.{IsSimplex, Chain, IsCoboundary, IsCocycle, IsCanonicalModulo, AreCanonicalModulo, cochain_of, of_degree, terms_of}, specs.ListedSimplices.simplices, proofs.Names.listed_simplices_law}
use Rattle.complex_index.specs.{declared.indexed.Cochain.Cochain, Names.{IsIndexOf, level}}
use Rattle.sparse_rows.specs.Rows.{IsBelow}
use Rattle.cohomology.specs.Names.{AreCanonicalIn, IsPlaced, chains_at}
use Rattle.report_law.{specs.Types.{DegreePart, Sizes}, specs.Names.{ArePrimitives, AreClasses, Classes, ranks, AreSizes, simplex_counts}, proofs.Names.{get_or-map, get_or-past, same-order}}
use Rattle.op_matrix.specs.Columns.{AreListedAs}
use Rattle.class_matrices.{proofs.ClassLemmas.{as-listed, count, on-level, ranks-are}, proofs.ListLemmas.{numbers-count, numbers-length}, specs.Names.{class_counts, listed_classes}}
use Rattle.job_report.specs.{Listed.level_counts, Parts.IsListedDegree}

-- ---- lists over numbers

-- what stands at a number
pub counted-at : {Y : Type 0} (R : ℕ → Y → Type 0) (a k : ℕ) (ys : List Y) (n : ℕ) (d : Y) → n < k → AllZip R (numbers_from a k) ys → R (a + n) (get_or ys n d)
counted-at R a zero ys n d l h = absurd (omega (arith, l))
counted-at R a (suc k) [] n d l h = absurd h
counted-at R a (suc k) (y ∷ ys) zero d l h = let e : a ≡ a + 0 = omega arith in subst (λ (m : ℕ). R m y) e h.0
counted-at R a (suc k) (y ∷ ys) (suc n) d l h = let e : suc a + n ≡ a + suc n = omega arith in subst (λ (m : ℕ). R m (get_or ys n d)) e (counted-at R (suc a) k ys n d (omega (arith, l)) h.1)

-- ---- items at places

each-slice : {X : Type 0} (P : X → Type 0) (xs : List X) (i : ℕ) (x : X) → slice_get xs i ≡ Some x → Each P xs → P x
each-slice P [] i x e h = absurd cc
each-slice P (y ∷ ys) zero x e h = let q : y ≡ x = cc in subst P q h.0
each-slice P (y ∷ ys) (suc i) x e h = each-slice P ys i x e h.1

slice-item : {X : Type 0} (xs : List X) (i : ℕ) (x : X) → slice_get xs i ≡ Some x → get_or xs i x ≡ x
slice-item [] i x e = refl
slice-item (y ∷ ys) zero x e = cc
slice-item (y ∷ ys) (suc i) x e = slice-item ys i x e

pub chains-next : {p : ℕ} (here : List (List ℕ)) (zs : List (Cochain p)) (i : ℕ) (z : Cochain p) (y : Chain) (ys new : List Chain) → i < length zs → z ≡ get_or zs i z
    → ys ≡ chains_at {p = p} here (take i zs) → y ≡ terms_of here z.row → new ≡ ys ++ y ∷ [] → new ≡ chains_at {p = p} here (take (i + 1) zs)
chains-next {p = p} here zs i z y ys new l same h e is =
    let f : Cochain p → Chain = λ c. terms_of here c.row in
    is ∙ ap₂ (λ (xs : List Chain) (x : Chain). xs ++ x ∷ []) h (e ∙ ap f same) ∙ sym (ap (map f) (take_more zs i z l) ∙ map-append f (take i zs) (get_or zs i z ∷ []))

pub chains-more : {p : ℕ} (here : List (List ℕ)) (zs : List (Cochain p)) (i : ℕ) (z : Cochain p) (y : Chain) (ys new : List Chain) → i < length zs → slice_get zs (i + 1 - 1) ≡ Some z
    → ys ≡ chains_at {p = p} here (take i zs) → y ≡ terms_of here z.row → new ≡ ys ++ y ∷ [] → new ≡ chains_at {p = p} here (take (i + 1) zs)
chains-more {p = p} here zs i z y ys new l at h e is =
    let back : i + 1 - 1 ≡ i = omega arith in
    let same = slice-item zs i z (subst (λ (k : ℕ). slice_get zs k ≡ Some z) back at) in
    chains-next {p = p} here zs i z y ys new l (sym same) h e is

-- ---- classes

module _ (p : ℕ) (levels : List (List (List ℕ))) (classes : ℕ → List (Cochain p)) (canonical : (n : ℕ) → AreCanonicalIn p levels n (classes n)) where
  abbrev listed : Classes
  listed = listed_classes {p = p} levels classes

  pub class-inside : (n i : ℕ) (z : Cochain p) → slice_get (classes n) (i + 1 - 1) ≡ Some z → IsBelow (length (level levels n)) z.row
  class-inside n i z e = (each-slice (IsPlaced p levels n) (classes n) (i + 1 - 1) z e (canonical n).placed).inside

  module _ (facets : List (List ℕ)) (is : IsIndexOf facets levels) where
    pub are-classes : AreClasses facets p listed
    are-classes = record {
      each = λ n l. subst (λ (cs : List Chain). AreCanonicalModulo facets n p (IsCocycle facets n p) (IsCoboundary facets n p) cs) (sym ((as-listed p levels classes canonical facets is).each n)) ((canonical n).basis facets is).canonical;
      inhabited = λ n l. (get_or (level levels n) 0 [], each_get_or (IsSimplex facets n) (level levels n) 0 [] (is.inhabited n (subst (λ (k : ℕ). n < k) (count p levels classes canonical) l)) (is.lists n).sound);
      whole = λ n s on. subst (λ (k : ℕ). n < k) (sym (count p levels classes canonical)) (on-level p levels classes canonical facets is n s on);
    }

    -- ---- sizes

    pub of-degree : (n : ℕ) → Each IsAscending facets → level levels n ≡ of_degree n (simplices facets)
    of-degree n up =
        let here = is.lists n in
        let there = listed_simplices_law.of_one_degree facets n up in
        same-order (level levels n) (of_degree n (simplices facets)) (is.in_order n) (listed_simplices_law.degree_in_order facets n)
        (λ s m. stands s (of_degree n (simplices facets)) (there.whole s (each_among (IsSimplex facets n) s (level levels n) here.sound m)))
        (λ s m. stands s (level levels n) (here.whole s (each_among (IsSimplex facets n) s (of_degree n (simplices facets)) there.sound m)))
      where
        stands : (s : List ℕ) (xs : List (List ℕ)) → (k : ℕ) × (k < length xs) × ((d : List ℕ) → get_or xs k d ≡ s) → Among s xs
        stands s xs k = subst (λ (t : List ℕ). Among t xs) (k.2 []) (each_get_or (λ t. Among t xs) xs k.0 [] k.1 (each_itself xs))

    pub sizes-are : (z : Sizes) → Each IsAscending facets → z.simplices ≡ level_counts levels → z.ranks ≡ class_counts {p = p} levels classes → AreSizes p facets z
    sizes-are z up s r = record {
      classes = listed;
      are = are-classes;
      ranks_are = r ∙ sym (ranks-are p levels classes canonical);
      simplices_are = s ∙ counts (numbers_from 0 (length levels)) ∙ ap (simplex_counts facets) (sym (count p levels classes canonical));
    }
      where
        counts : (ns : List ℕ) → map (λ n. length (level levels n)) ns ≡ map (λ n. length (of_degree n (simplices facets))) ns
        counts [] = refl
        counts (n ∷ ns) = ap₂ (λ (x : ℕ) (xs : List ℕ). x ∷ xs) (ap (λ (ss : List (List ℕ)). length ss) (of-degree n up)) (counts ns)

-- ---- the degrees of a report

module _ (p : ℕ) (detailed : Bool) (levels : List (List (List ℕ))) (classes : ℕ → List (Cochain p)) where
  pub degree-classes : (ns : List ℕ) (ds : List DegreePart) → AllZip (IsListedDegree {p = p} detailed levels classes) ns ds → map (λ d. d.classes) ds ≡ map (λ n. chains_at {p = p} (level levels n) (classes n)) ns
  degree-classes [] [] h = refl
  degree-classes [] (d ∷ ds) h = absurd h
  degree-classes (n ∷ ns) [] h = absurd h
  degree-classes (n ∷ ns) (d ∷ ds) h = ap₂ (λ (x : List Chain) (xs : Classes). x ∷ xs) h.0.listed (degree-classes ns ds h.1)

  pub below-are : (facets : List (List ℕ)) → IsIndexOf facets levels → (ds : List DegreePart) → AllZip (IsListedDegree {p = p} detailed levels classes) (numbers_from 0 (length levels)) ds
      → IsTrue detailed → (n : ℕ) → n < length ds → ArePrimitives facets n p (get_or (map (λ d. d.below) ds) n [])
  below-are facets is ds h t n l =
      let few : n < length levels = subst (λ (k : ℕ). n < k) (length_alike (IsListedDegree {p = p} detailed levels classes) (numbers_from 0 (length levels)) ds h ∙ numbers-length 0 (length levels)) l in
      let zero-more : 0 + n ≡ n = omega arith in
      let none : DegreePart = record { below = []; classes = [] } in
      subst (λ (cs : List Chain). ArePrimitives facets n p cs) (sym (get_or-map (λ (d : DegreePart). d.below) ds n none))
      ((subst (λ (m : ℕ). IsListedDegree {p = p} detailed levels classes m (get_or ds n none)) zero-more (counted-at (IsListedDegree {p = p} detailed levels classes) 0 (length levels) ds n none few h)).below t facets is)
