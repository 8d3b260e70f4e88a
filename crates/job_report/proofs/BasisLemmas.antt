-- The classes of a complex that are listed degree by degree, from canonical classes to what a report has of the complex.
use Rattle.std.{proofs.Common.{◌≡◌, ◌∙◌, ℕ, ◌+◌, ◌<◌, ◌≤◌, inl, inr, List, [], ◌∷◌, ◌++◌, false, length, map, take, get_or, arith, sym, ap, subst, take_all}, specs.List.AllZip, proofs.lemmas.{Bool.cases_lt, List.length-map}}
use Rattle.signed_sum.specs.Names.{numbers_from}
use Rattle.linear_law.proofs.Names.{each_get_or, length_alike}
use Rattle.simplicial_law.specs.Names.{AreCanonicalClasses, IsSimplex, Chain}
use Rattle.complex_index.specs.{declared.indexed.Cochain.Cochain, Names.{IsIndexOf, level}}
use Rattle.cohomology.{specs.Names.{AreCanonicalIn, chains_at}, proofs.LoopLemmas.no_simplex}
use Rattle.report_law.{specs.Types.{ComplexBlock, ComplexPart, DegreePart}, specs.Names.{AreClasses, IsComplexPart, classes_of}, proofs.Names.get_or-map}
use Rattle.class_matrices.proofs.ListLemmas.{numbers-length}
use Rattle.job_report.{specs.Parts.IsClassPart, proofs.ClassLemmas.{chains-next, counted-at}, proofs.PartLemmas.never}

-- all classes of a degree are listed
pub classes-listed : (p : ℕ) (levels : List (List (List ℕ))) (n : ℕ) (classes : List (Cochain p)) (i : ℕ) (chains listed : List Chain) → AreCanonicalIn p levels n classes → length classes ≤ i
    → chains ≡ chains_at {p = p} (level levels n) (take i classes) → listed ≡ chains → (facets : List (List ℕ)) → IsIndexOf facets levels → AreCanonicalClasses facets n p listed
classes-listed p levels n classes i chains listed h all e f facets is =
    let same : listed ≡ chains_at {p = p} (level levels n) classes = f ∙ e ∙ ap (chains_at {p = p} (level levels n)) (take_all i classes all) in
    subst (λ (cs : List Chain). AreCanonicalClasses facets n p cs) (sym same) (h.basis facets is).canonical

module _ (p : ℕ) (facets : List (List ℕ)) (levels : List (List (List ℕ))) (is : IsIndexOf facets levels) (ds : List DegreePart) (h : AllZip (IsClassPart p levels) (numbers_from 0 (length levels)) ds) where
  abbrev listed : List (List Chain)
  listed = map (λ (d : DegreePart). d.classes) ds

  count : length listed ≡ length levels
  count = length-map ds (λ (d : DegreePart). d.classes) ∙ length_alike (IsClassPart p levels) (numbers_from 0 (length levels)) ds h ∙ numbers-length 0 (length levels)

  on-level : (n : ℕ) → n < length listed → n < length levels
  on-level n l = subst (λ (k : ℕ). n < k) count l

  pub listed-are : AreClasses facets p listed
  listed-are = record {
    each = λ n l.
        let none : DegreePart = record { below = []; classes = [] } in
        let from : 0 + n ≡ n = omega arith in
        subst (λ (cs : List Chain). AreCanonicalClasses facets n p cs) (sym (get_or-map (λ (d : DegreePart). d.classes) ds n none))
        ((subst (λ (m : ℕ). IsClassPart p levels m (get_or ds n none)) from (counted-at (IsClassPart p levels) 0 (length levels) ds n none (on-level n l) h)) facets is);
    inhabited = λ n l. (get_or (level levels n) 0 [], each_get_or (IsSimplex facets n) (level levels n) 0 [] (is.inhabited n (on-level n l)) (is.lists n).sound);
    whole = λ n s on. elim (cases_lt n (length levels)) [
      | inl l ↦ subst (λ (k : ℕ). n < k) (sym count) l
      | inr m ↦ absurd (no_simplex facets levels n m is s on)
    ];
  }

pub basis-is : (p : ℕ) (levels : List (List (List ℕ))) (block : ComplexBlock) → IsIndexOf block.facets levels → (c : ComplexPart) → c.name ≡ block.name
    → AllZip (IsClassPart p levels) (numbers_from 0 (length levels)) c.degrees → IsComplexPart false false p block c
basis-is p levels block is c e h = record {
  name = e;
  classes = listed-are p block.facets levels is c.degrees h;
  tables = λ t. absurd (never t);
  facets = λ t. absurd (never t);
  below = λ t. absurd (never t);
}
