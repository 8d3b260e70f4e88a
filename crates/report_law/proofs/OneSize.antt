-- The sizes of a complex.
use Rattle.std.{proofs.Common.{◌≡◌, ℕ, List, [], ◌∷◌, length, refl, sym, ap, ap₂, ◌∙◌, IsTrue, None, Some, true}, specs.declared.option.Option.Option, specs.List.AllZip, proofs.lemmas.List.length-map}
use Rattle.fp_field.{specs.Served.served, proofs.ServedLemmas.served_field}
use Rattle.linear_law.specs.Names.{Each, IsAscending}
use Rattle.report_law.{specs.Types.{ComplexBlock, Sizes}, specs.Names.{LimitLaw, SizesLaw, Classes, ranks, classes_of, AreJobSizes, AreSizes, passing_sum, simplex_counts}, proofs.Maps.{job-complexes, job-prime}, proofs.SameData.same-bases}
use Rattle.complex_file.specs.{Names.Spelled, Jobs.is_job}

module _ (p : ℕ) (facets : List (List ℕ)) (is_served : IsTrue (served p)) (ascending : Each IsAscending facets) where
  one : (z w : Sizes) → AreSizes p facets z → AreSizes p facets w → z ≡ w
  one z w h k =
      let e = same-bases facets ascending p (served_field p is_served) h.classes k.classes h.are k.are in
      let ranks_same = h.ranks_are ∙ ap ranks e ∙ sym k.ranks_are in
      let counts = h.simplices_are ∙ ap (λ (cs : Classes). simplex_counts facets (length cs)) e ∙ sym k.simplices_are in
      (λ t. record { simplices = counts t; ranks = ranks_same t })

pub sizes_law : SizesLaw
sizes_law = record {
  one = λ p facets z w is_served ascending h k. one p facets is_served ascending z w h k;
  listed = λ tabled detailed p block c h. record { classes = classes_of c; are = h.classes; ranks_are = refl; simplices_are = ap (simplex_counts block.facets) (sym (length-map c.degrees (λ d. d.classes))) };
}

-- ---- the limit

same-sizes : (p : ℕ) → IsTrue (served p) → (blocks : List ComplexBlock) → Each (λ b. Each IsAscending b.facets) blocks → (zs ws : List Sizes)
    → AllZip (λ block z. AreSizes p block.facets z) blocks zs → AllZip (λ block z. AreSizes p block.facets z) blocks ws → zs ≡ ws
same-sizes p s [] a [] [] h k = refl
same-sizes p s [] a (z ∷ zs) ws h k = absurd h
same-sizes p s (b ∷ bs) a [] ws h k = absurd h
same-sizes p s (b ∷ bs) a (z ∷ zs) (w ∷ ws) h k = ap₂ ◌∷◌ (one p b.facets s a.0 z w h.0 k.0) (same-sizes p s bs a.1 zs ws h.1 k.1)
same-sizes p s _ a _ _ h k = absurd k

job-sizes : (job : Spelled) → is_job job.prime job.complexes job.maps ≡ true → (zs ws : List Sizes) → AreJobSizes job zs → AreJobSizes job ws → zs ≡ ws
job-sizes job kept zs ws h k = same-sizes job.prime (job-prime job.prime job.complexes job.maps kept) job.complexes (job-complexes job.prime job.complexes job.maps kept) zs ws h k

pub limit_law : LimitLaw
limit_law = record {
  one = λ job limit m n kept h k.
      let e : ◌≡◌ {A = Option ℕ} (Some m) (Some n) = sym h.passes ∙ ap (passing_sum job.prime limit) (job-sizes job kept h.sizes k.sizes h.are k.are) ∙ k.passes in cc;
  not_both = λ job limit n kept h k.
      let e : ◌≡◌ {A = Option ℕ} (Some n) None = sym h.passes ∙ ap (passing_sum job.prime limit) (job-sizes job kept h.sizes k.sizes h.are k.are) ∙ k.within in cc;
}
