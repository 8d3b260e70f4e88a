-- From the sections of complexes and maps to the report of a job.
use Rattle.std.{proofs.Common.{◌≡◌, ◌∙◌, ℕ, zero, suc, Bool, true, false, List, [], ◌∷◌, length, map, get_or, arith, refl, sym, ap, subst, IsTrue, ℤ}, specs.List.AllZip}
use Rattle.signed_sum.specs.Names.{numbers_from}
use Rattle.fp_field.specs.Served.{served}
use Rattle.linear_law.{specs.Names.{Each, IsAscending}, proofs.Names.{each_right, zip_change}}
use Rattle.report_law.{specs.Types.{ComplexBlock, MapBlock, ComplexPart, Form, MapPart, Sizes}, specs.Names.{blocks, lines, products, AreClasses, Classes, ranks, block_of, classes_of, line_of, product_of, AreMaximalFacets, AreTables, IsCartanPart, IsComplexPart, IsInducedPart, IsMapPart, IsOperationPart, IsProductPart, IsReportOf, AreSizes}, proofs.Names.sizes_law}
use Rattle.complex_file.specs.Names.{Spelled, facets_at, image}
use Rattle.complex_index.specs.{declared.indexed.Cochain.Cochain, Names.{IsIndexOf, level}}
use Rattle.cohomology.specs.Names.{AreCanonicalIn}
use Rattle.report.specs.{declared.form.Form.TheVariants.Basis, Names.{has_details, has_tables}}
use Rattle.term_total.specs.Names.{IsPart}
use Rattle.job_report.{specs.declared.known.Known.Known, specs.Jobs.{AreAllListed, CanBeIndexed, HasStored, IsDeeper, IsKnown, IsSize}, proofs.JobLemmas.ascending-facets, specs.Listed.level_counts, specs.Parts.{IsListedDegree, IsListedLine, IsListedOperation, IsListedProduct}, proofs.ClassLemmas.{are-classes, below-are, degree-classes, sizes-are}, proofs.Zips.{headings, parts}}
use Rattle.class_matrices.{specs.Names.{class_counts, listed_classes}, proofs.ListLemmas.numbers-count, proofs.ClassLemmas.ranks-are}
use Rattle.line_difference.specs.Elements.{AreStored}
use Rattle.may_elements.specs.Stored.{Parts}

pub never : IsTrue false → ⊥
never t = cc

-- ---- a complex

module _ (p : ℕ) (detailed : Bool) (levels : List (List (List ℕ))) (classes : ℕ → List (Cochain p)) (canonical : (n : ℕ) → AreCanonicalIn p levels n (classes n)) (block : ComplexBlock) (is : IsIndexOf block.facets levels) where
  pub classes-are : (c : ComplexPart) → AllZip (IsListedDegree {p = p} detailed levels classes) (numbers_from 0 (length levels)) c.degrees → classes_of c ≡ listed_classes {p = p} levels classes
  classes-are c h = degree-classes p detailed levels classes (numbers_from 0 (length levels)) c.degrees h

  pub part-is : (c : ComplexPart) (rs : List ℕ) → c.name ≡ block.name → AreMaximalFacets block.facets c.facets → AllZip (IsListedDegree {p = p} detailed levels classes) (numbers_from 0 (length levels)) c.degrees
      → rs ≡ class_counts {p = p} levels classes → AllZip (IsListedProduct {p = p} detailed levels classes) (products rs) c.products
      → AllZip (IsListedOperation {p = p} detailed levels classes) (blocks p rs) c.operations → AllZip (IsListedLine {p = p} detailed levels classes) (lines p rs) c.cartans → IsComplexPart true detailed p block c
  part-is c rs e f h r x o l =
      let all : Classes = listed_classes {p = p} levels classes in
      let same : classes_of c ≡ all = classes-are c h in
      let rank : rs ≡ ranks all = r ∙ sym (ranks-are p levels classes canonical) in
      record {
        name = e;
        classes = subst (AreClasses block.facets p) (sym same) (are-classes p levels classes canonical block.facets is);
        tables = λ t. subst (λ (cs : Classes). AreTables detailed block.facets p cs c) (sym same) (record {
          products = headings product_of levels (λ facets y. IsProductPart detailed facets p all y) (products rs) c.products x ∙ ap products rank;
          product_parts = parts product_of levels (λ facets y. IsProductPart detailed facets p all y) block.facets is (products rs) c.products x;
          operations = headings block_of levels (λ facets y. IsOperationPart detailed facets p all y) (blocks p rs) c.operations o ∙ ap (blocks p) rank;
          operation_parts = parts block_of levels (λ facets y. IsOperationPart detailed facets p all y) block.facets is (blocks p rs) c.operations o;
          cartans = headings line_of levels (λ facets y. IsCartanPart detailed facets p all y) (lines p rs) c.cartans l ∙ ap (lines p) rank;
          cartan_parts = parts line_of levels (λ facets y. IsCartanPart detailed facets p all y) block.facets is (lines p rs) c.cartans l;
        });
        facets = λ t. f;
        below = below-are p detailed levels classes block.facets is c.degrees h;
      }

  pub stored-for : (table : Parts) (rs : List ℕ) → Each IsAscending block.facets → HasStored p table block → rs ≡ class_counts {p = p} levels classes → AreStored p table rs
  stored-for table rs up h e =
      let z : Sizes = record { simplices = level_counts levels; ranks = class_counts {p = p} levels classes } in
      subst (AreStored p table) (sym e) (h z (sizes-are p levels classes canonical block.facets is z up refl refl))

-- ---- sizes and what is stored

module _ {B : Type 0} (p : ℕ) (is_of : List (List (List ℕ)) → B → Type 0) (classes : B → ℕ → List (Cochain p)) (canonical : (levels : List (List (List ℕ))) (b : B) → is_of levels b → (n : ℕ) → AreCanonicalIn p levels n (classes b n)) where
  all-sizes : (blocks : List ComplexBlock) (known : List (Known B)) (zs : List Sizes) → Each (λ b. Each IsAscending b.facets) blocks → AllZip (IsKnown is_of) blocks known → AllZip (IsSize {p = p} classes) known zs
      → AllZip (λ b z. AreSizes p b.facets z) blocks zs
  all-sizes [] [] [] up h k = tt
  all-sizes [] [] (z ∷ zs) up h k = absurd k
  all-sizes [] (x ∷ xs) zs up h k = absurd h
  all-sizes (b ∷ bs) [] zs up h k = absurd h
  all-sizes (b ∷ bs) (x ∷ xs) [] up h k = absurd k
  all-sizes (b ∷ bs) (x ∷ xs) (z ∷ zs) up h k =
      (sizes-are p x.index (classes x.basis) (canonical x.index x.basis h.0.1) b.facets h.0.0 z up.0 k.0.simplices k.0.ranks, all-sizes bs xs zs up.1 h.1 k.1)

  -- of complexes that are known, over another list for each
  pub known-sizes : (cs blocks : List ComplexBlock) (known ks : List (Known B)) (zs : List Sizes) → blocks ≡ cs → ks ≡ known → Each (λ b. CanBeIndexed b.facets) cs → AllZip (IsKnown is_of) blocks known → AllZip (IsSize {p = p} classes) ks zs
      → AllZip (λ b z. AreSizes p b.facets z) cs zs
  known-sizes cs blocks known ks zs e f h k s =
      all-sizes cs known zs (ascending-facets cs h) (subst (λ (bs : List ComplexBlock). AllZip (IsKnown is_of) bs known) e k) (subst (λ (xs : List (Known B)). AllZip (IsSize {p = p} classes) xs zs) f s)

  pub all-parts : (known : List (Known B)) (zs : List Sizes) → AllZip (IsSize {p = p} classes) known zs → Each IsPart zs
  all-parts known zs h = each_right (IsSize {p = p} classes) IsPart part known zs h
    where
      part : (x : Known B) (z : Sizes) → IsSize {p = p} classes x z → IsPart z
      part x z k =
          let a = ap (λ (ns : List ℕ). length ns) k.simplices ∙ numbers-count (λ n. length (level x.index n)) (length x.index) in
          let b = ap (λ (ns : List ℕ). length ns) k.ranks ∙ numbers-count (λ n. length (classes x.basis n)) (length x.index) in
          let c = k.few in
          record { same = a ∙ sym b; few = omega (arith, b, c) }

pub all-stored : (p : ℕ) (table : Parts) (blocks : List ComplexBlock) (zs : List Sizes) → IsTrue (served p) → Each (λ b. Each IsAscending b.facets) blocks
    → AllZip (λ b z. AreSizes p b.facets z) blocks zs → Each (λ z. AreStored p table z.ranks) zs → Each (HasStored p table) blocks
all-stored p table [] [] s up h k = tt
all-stored p table [] (z ∷ zs) s up h k = absurd h
all-stored p table (b ∷ bs) [] s up h k = absurd h
all-stored p table (b ∷ bs) (z ∷ zs) s up h k =
    ((λ w a. subst (λ (v : Sizes). AreStored p table v.ranks) (sizes_law.one p b.facets z w s up.0 h.0 a) k.0), all-stored p table bs zs s up.1 h.1 k.1)

pub deeper-known : {A B : Type 0} (of_first : List (List (List ℕ)) → A → Type 0) (of_second : List (List (List ℕ)) → B → Type 0) (blocks : List ComplexBlock) (xs : List (Known A)) (ys : List (Known B))
    → AllZip (IsKnown of_first) blocks xs → AllZip (IsDeeper of_first of_second) xs ys → AllZip (IsKnown of_second) blocks ys
deeper-known f s [] [] [] h k = tt
deeper-known f s [] [] (y ∷ ys) h k = absurd k
deeper-known f s [] (x ∷ xs) ys h k = absurd h
deeper-known f s (b ∷ bs) [] ys h k = absurd h
deeper-known f s (b ∷ bs) (x ∷ xs) [] h k = absurd k
deeper-known f s (b ∷ bs) (x ∷ xs) (y ∷ ys) h k = (k.0 b h.0, deeper-known f s bs xs ys h.1 k.1)

-- ---- a job

pub all-listed : {p : ℕ} {B : Type 0} (classes : B → ℕ → List (Cochain p)) (known : List (Known B)) (cs : List ComplexPart) → AllZip (λ (x : Known B) (c : ComplexPart). classes_of c ≡ listed_classes {p = p} x.index (classes x.basis)) known cs
    → AreAllListed {p = p} classes known (map classes_of cs)
all-listed classes [] cs h k x e = absurd cc
all-listed classes (y ∷ ys) [] h k x e = absurd h
all-listed {p = p} {B = B} classes (y ∷ ys) (c ∷ cs) h zero x e = let q : y ≡ x = cc in h.0 ∙ ap (λ (z : Known B). listed_classes {p = p} z.index (classes z.basis)) q
all-listed classes (y ∷ ys) (c ∷ cs) h (suc k) x e = all-listed classes ys cs h.1 k x e

pub bases-report : (job : Spelled) (cs : List ComplexPart) (p : ℕ) → job.prime ≡ p → AllZip (IsComplexPart false false p) job.complexes cs → IsReportOf Basis job (record { prime = p; complexes = cs; maps = [] })
bases-report job cs p e h = record { prime = sym e; complexes = subst (λ (q : ℕ). AllZip (IsComplexPart false false q) job.complexes cs) (sym e) h; maps = λ t. absurd (never t) }

pub whole-report : (form : Form) (job : Spelled) (cs : List ComplexPart) (ms : List MapPart) (p : ℕ) (detailed : Bool) → job.prime ≡ p → has_details form ≡ detailed → AllZip (IsComplexPart true detailed p) job.complexes cs
    → AllZip (IsMapPart detailed (record { prime = p; complexes = job.complexes; maps = [] }) (map classes_of cs)) job.maps ms → IsReportOf form job (record { prime = p; complexes = cs; maps = ms })
whole-report form job cs ms p detailed e d h k = record {
  prime = sym e;
  complexes = zip_change (IsComplexPart true detailed p) (IsComplexPart (has_tables form) (has_details form) job.prime) fewer job.complexes cs h;
  maps = λ t. zip_change (IsMapPart detailed (record { prime = p; complexes = job.complexes; maps = [] }) (map classes_of cs)) (IsMapPart (has_details form) job (map classes_of cs)) same job.maps ms k;
}
  where
    fewer : (b : ComplexBlock) (c : ComplexPart) → IsComplexPart true detailed p b c → IsComplexPart (has_tables form) (has_details form) job.prime b c
    fewer b c u = rw (d, e) (record { name = u.name; classes = u.classes; tables = λ t. u.tables refl; facets = u.facets; below = u.below })

    same : (b : MapBlock) (m : MapPart) → IsMapPart detailed (record { prime = p; complexes = job.complexes; maps = [] }) (map classes_of cs) b m → IsMapPart (has_details form) job (map classes_of cs) b m
    same b m u = rw d (record {
      name = u.name;
      from_name = u.from_name;
      to_name = u.to_name;
      sends = u.sends;
      induced = u.induced;
      induced_parts = subst (λ (q : ℕ). Each (IsInducedPart detailed (image b.sends) (facets_at job.complexes b.from) q (get_or (map classes_of cs) b.from []) (get_or (map classes_of cs) b.to [])) m.induced) (sym e) u.induced_parts;
    })
