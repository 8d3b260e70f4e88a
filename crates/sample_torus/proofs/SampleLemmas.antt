-- What the certificate of a torus tells of its sizes and counted terms.
use Rattle.std.{proofs.Common.{◌≡◌, ℕ, ◌<◌, ◌≤◌, ◌^◌, IsTrue, true, refl, sym, ◌∙◌, ap, subst, arith, List, [], ◌∷◌, length, map, get_or, None, Ok, Err, Result, IfOk, ltb-false, inl}, specs.List.AllZip, proofs.lemmas.List.length-map, specs.declared.alloc.AllocError.AllocError}
use Rattle.fp_field.specs.Served.{served}
use Rattle.linear_law.{specs.Names.Each, proofs.Names.each_of_index}
use Rattle.complex_file.specs.{declared.block.ComplexBlock.ComplexBlock, Names.Spelled, Jobs.is_job}
use Rattle.report.specs.declared.{complex.ComplexPart.ComplexPart, complex.DegreePart.DegreePart, form.Form.TheVariants.Certificate, job.Report.Report, plan.Sizes.Sizes}
use Rattle.report_law.{specs.Names.{ranks, classes_of, IsComplexPart, IsReportOf, AreSizes, IsWithinLimit, addends, passing_sum, sizes_of}, proofs.Names.sizes_law}
use Rattle.certificate_law.{specs.Names.{Certifies, FailsFirst, line_said, stated}, proofs.Failures.first_failure_law, proofs.StatedLines.stated_lines_law, proofs.JobLaw.complete_law, proofs.Limits.more_allowed, proofs.WrittenJobs.{IsSound, few_classes, few_degrees, few_lines_law, writable}, proofs.Building.at_index, proofs.CertifiedBases.{classes_at, no_degree}, proofs.FewLines.each_of_at, proofs.JobBlocks.FacetsFit}
use Rattle.term_total.specs.Names.{sum_of, IsPart}
use Rattle.sample_torus.specs.{declared.sizes.Sample.Sample, Samples.{CanBeSized, IsSample}}
use Rattle.signed_sum.{specs.Names.numbers_from, proofs.Names.length-numbers_from}
use Rattle.simplicial_law.specs.{Names.{Chain, of_degree}, ListedSimplices.simplices}

-- such a certificate certifies
pub job_certifies : (job : Spelled) (r : Report) → is_job job.prime job.complexes job.maps ≡ true → IsReportOf Certificate job r → IsWithinLimit job (10 ^ 8) → Certifies r
job_certifies job r kept h within =
    complete_law job r kept h (record { sizes = within.sizes; are = within.are; within = more_allowed (10 ^ 8) (10 ^ 12) 0 (addends job.prime within.sizes) (omega arith) within.within })

-- ---- a job of one complex

one_sized : (p : ℕ) (b : ComplexBlock) (c : ComplexPart) → IsTrue (served p) → IsSound b → IsComplexPart true true p b c → (zs : List Sizes) → AllZip (λ b z. AreSizes p b.facets z) (b ∷ []) zs → passing_sum p (10 ^ 8) zs ≡ None
    → passing_sum p (10 ^ 8) (sizes_of b.facets c ∷ []) ≡ None
one_sized p b c prime sound part [] h within = absurd h
one_sized p b c prime sound part (z ∷ y ∷ zs) h within = absurd h.1
one_sized p b c prime sound part (z ∷ []) h within =
    let e = sizes_law.one p b.facets z (sizes_of b.facets c) prime sound.ascending h.0 (sizes_law.listed true true p b c part) in
    subst (λ (x : Sizes). passing_sum p (10 ^ 8) (x ∷ []) ≡ None) e within

-- what is listed of a complex of a job can be counted
pub can_be_sized : (p : ℕ) (b : ComplexBlock) (c : ComplexPart) → IsSound b → IsComplexPart true true p b c → CanBeSized b.facets c
unfolding simplices
can_be_sized p b c sound part =
    let degrees = few_degrees p b c sound.good sound.low sound.fit sound.ascending part in
    let count = length-map c.degrees (λ (d : DegreePart). d.classes) in
    record {
      ascending = sound.ascending;
      short = each_of_index (λ (f : List ℕ). length f ≤ 16) b.facets (λ f m. let l = ltb-false 16 (length f) (sound.fit.narrow f m) in omega (arith, l));
      small = few_of b.facets sound.fit;
      low = omega (arith, degrees, count);
      few = each_of_at (λ d. length d.classes < 2 ^ 28) 0 c.degrees (at_index (λ n d. length d.classes < 2 ^ 28) no_degree c.degrees (λ n l.
          let k = few_classes p b c sound.good sound.low sound.fit sound.ascending part n in
          let e = ap (λ (zs : List Chain). length zs) (classes_at c n) in
          omega (arith, k, e)));
    }
  where
    few_of : (facets : List (List ℕ)) → FacetsFit facets → length (simplices facets) < 2 ^ 32
    few_of [] fit = omega arith
    few_of (f ∷ fs) fit = let l = fit.few f (inl refl) in omega (arith, l)

-- ---- sizes

pub ranks_same : (ds : List DegreePart) → map (λ d. length d.classes) ds ≡ ranks (map (λ d. d.classes) ds)
ranks_same [] = refl
ranks_same (d ∷ ds) = ap (λ (ns : List ℕ). length d.classes ∷ ns) (ranks_same ds)

pub is_part : (facets : List (List ℕ)) (c : ComplexPart) → length c.degrees ≤ 16 → IsPart (sizes_of facets c)
is_part facets c low =
    let a = length-map (numbers_from 0 (length c.degrees)) (λ (n : ℕ). length (of_degree n (simplices facets))) in
    let n = length-numbers_from 0 (length c.degrees) in
    let b = length-map (classes_of c) (λ (cs : List Chain). length cs) in
    let d = length-map c.degrees (λ (d : DegreePart). d.classes) in
    record { same = omega (arith, a, n, b, d); few = omega (arith, b, d, low) }

-- what is told of the one complex of a job
pub record IsSizedOne (p : ℕ) (b : ComplexBlock) (c : ComplexPart) : Type 0 where
  pub can : CanBeSized b.facets c
  pub within : passing_sum p (10 ^ 8) (sizes_of b.facets c ∷ []) ≡ None
  pub are : AreSizes p b.facets (sizes_of b.facets c)

one_of : (p : ℕ) (bs : List ComplexBlock) (cs : List ComplexPart) (zs : List Sizes) → IsTrue (served p) → Each IsSound bs → AllZip (IsComplexPart true true p) bs cs → AllZip (λ b z. AreSizes p b.facets z) bs zs → passing_sum p (10 ^ 8) zs ≡ None
    → length bs ≡ 1 → (d : ComplexBlock) (e : ComplexPart) → IsSizedOne p (get_or bs 0 d) (get_or cs 0 e)
one_of p [] cs zs prime s h k within one d e = absurd (omega (arith, one))
one_of p (b ∷ a ∷ bs) cs zs prime s h k within one d e = absurd (omega (arith, one))
one_of p (b ∷ []) [] zs prime s h k within one d e = absurd h
one_of p (b ∷ []) (c ∷ cs) zs prime s h k within one d e = record {
  can = can_be_sized p b c s.0 h.0;
  within = one_sized p b c prime s.0 h.0 zs k within;
  are = sizes_law.listed true true p b c h.0;
}

pub sized_one : (job : Spelled) (r : Report) → is_job job.prime job.complexes job.maps ≡ true → IsReportOf Certificate job r → IsWithinLimit job (10 ^ 8) → length job.complexes ≡ 1 → (d : ComplexBlock) (e : ComplexPart)
    → IsSizedOne job.prime (get_or job.complexes 0 d) (get_or r.complexes 0 e)
sized_one job r kept h within one d e =
    let w = writable job kept in
    one_of job.prime job.complexes r.complexes within.sizes w.prime w.complexes h.complexes within.are within.within one d e

-- lines of the certificate can be counted
pub few_stated : (job : Spelled) (r : Report) → is_job job.prime job.complexes job.maps ≡ true → IsReportOf Certificate job r → length (stated r) < 2 ^ 64
few_stated job r kept h =
    let a = length-map (stated r) line_said in
    let b = ap length (stated_lines_law r) in
    let c = few_lines_law job r kept h in
    omega (arith, a, b, c)

-- a report that certifies fails nowhere
pub no_failure : (r : Report) (condition line : ℕ) → Certifies r → FailsFirst r condition line → ⊥
no_failure r condition line h k = first_failure_law.none r condition line h k

-- the same of what stands first in each list
pub shown_one : (job : Spelled) (r : Report) (b : ComplexBlock) (c : ComplexPart) (xs : List ComplexBlock) (ys : List ComplexPart) → is_job job.prime job.complexes job.maps ≡ true → IsReportOf Certificate job r → IsWithinLimit job (10 ^ 8)
    → length job.complexes ≡ 1 → xs ≡ job.complexes → b ≡ get_or xs 0 b → ys ≡ r.complexes → c ≡ get_or ys 0 c → IsSizedOne job.prime b c
shown_one job r b c xs ys kept h within one x_is b_is y_is c_is =
    let first : get_or job.complexes 0 b ≡ b = sym (b_is ∙ ap (λ (l : List ComplexBlock). get_or l 0 b) x_is) in
    let second : get_or r.complexes 0 c ≡ c = sym (c_is ∙ ap (λ (l : List ComplexPart). get_or l 0 c) y_is) in
    subst (λ (a : ComplexBlock). IsSizedOne job.prime a c) first
    (subst (λ (d : ComplexPart). IsSizedOne job.prime (get_or job.complexes 0 b) d) second (sized_one job r kept h within one b c))

-- what is shown of it
pub shown_sample : (p : ℕ) (complexes : List ComplexBlock) (b : ComplexBlock) (c : ComplexPart) (r : Result Sample AllocError) → IsSizedOne p b c → b ≡ get_or complexes 0 b → IfOk r (λ s. s.sizes ≡ sizes_of b.facets c)
    → IfOk r (λ s. s.terms ≡ sum_of (addends p (sizes_of b.facets c ∷ []))) → IfOk r (λ s. (block : ComplexBlock) → complexes ≡ block ∷ [] → IsSample p block.facets s)
shown_sample p complexes b c (Err e) one b_is sizes terms = tt
shown_sample p complexes b c (Ok s) one b_is sizes terms = λ block e.
    let same : b ≡ block = b_is ∙ ap (λ (l : List ComplexBlock). get_or l 0 b) e in
    let here : IsSample p b.facets s = record {
      are = subst (AreSizes p b.facets) (sym sizes) one.are;
      within = subst (λ (z : Sizes). passing_sum p (10 ^ 8) (z ∷ []) ≡ None) (sym sizes) one.within;
      terms = terms ∙ ap (λ (z : Sizes). sum_of (addends p (z ∷ []))) (sym sizes);
    } in
    subst (λ (a : ComplexBlock). IsSample p a.facets s) same here
