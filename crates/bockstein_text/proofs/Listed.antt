-- From the matrices of the Bockstein by place to the Bocksteins of a complex, and from these to the text of a job.
use Rattle.std.{proofs.Common.{◌≡◌, ◌∙◌, ℕ, ◌+◌, ◌&&◌, Bool, true, nat_lt, IsTrue, List, [], ◌∷◌, ◌++◌, length, map, get_or, flat_map, append_assoc, codes, ap, ap₂, subst, sym, refl}, specs.List.{AllZip, filter}, proofs.lemmas.List.length-map, proofs.lemmas.List.Elements.filter_agree}
use Rattle.signed_sum.specs.Names.{numbers_from}
use Rattle.fp_field.specs.Served.{served}
use Rattle.linear_law.specs.Names.{Each}
use Rattle.simplicial_law.specs.Names.{Chain, Cochain as SimplexCochain, HasCoordinates, cochain_of}
use Rattle.bockstein_law.specs.Bockstein.{bockstein}
use Rattle.complex_file.specs.{declared.block.ComplexBlock.ComplexBlock, Names.Spelled}
use Rattle.complex_index.specs.{declared.indexed.Cochain.Cochain, Names.{IsIndexOf, level}}
use Rattle.cohomology.specs.{Names.{AreCanonicalIn, chains_at, cochains_at}, declared.basis.Column.Column}
use Rattle.report_law.{specs.Names.{Classes, classes_in, cochains_in, has_class, ranks}, proofs.Names.get_or-map}
use Rattle.report_text_law.specs.{Names.{ended, spelled}, declared.line.Line.TheVariants.{Complex as complex_line, Done as done_line, End as end_line, Prime as prime_line}}
use Rattle.class_matrices.{specs.Names.listed_classes, proofs.ClassLemmas.{as-listed, count}}
use Rattle.job_report.proofs.ClassLemmas.{are-classes}
use Rattle.bockstein.{specs.Matrices.{IsBocksteinMatrix, values_of}, proofs.MatrixLemmas.value-columns}
use Rattle.bockstein_text.{specs.Names.{Adds, AreBocksteins, Bocksteins, IsBocksteinText, IsListed, IsMatrix, Matrix, bockstein_degrees, bocksteins_text, columns_text, is_live, matrix_heading, matrix_text}, proofs.Added.{one_added, test_holds}}

-- the matrix from degree q, where it stands
pub matrix_added : {p : ℕ} (keeps : Bool) (levels : List (List (List ℕ))) (classes : ℕ → List (Cochain p)) (q : ℕ) (made : List (Column p)) (old headed new : List ℕ) → is_live {p = p} classes q ≡ true → IsBocksteinMatrix {p = p} keeps levels classes q made
    → headed ≡ old ++ ended (matrix_heading q) → new ≡ headed ++ columns_text 1 (values_of {p = p} made) → Adds matrix_text (IsListed {p = p} keeps levels classes) (filter (is_live {p = p} classes) (q ∷ [])) old new
matrix_added {p = p} keeps levels classes q made old headed new live matrix heading columns =
    let m : Matrix = record { from = q; columns = values_of {p = p} made } in
    test_holds matrix_text (IsListed {p = p} keeps levels classes) (is_live {p = p} classes) q m old new live (record { from = refl; made = made; matrix = matrix; columns = refl })
    (columns ∙ ap (λ (t : List ℕ). t ++ columns_text 1 m.columns) heading ∙ append_assoc old (ended (matrix_heading q)) (columns_text 1 m.columns))

module _ (p : ℕ) (keeps : Bool) (levels : List (List (List ℕ))) (classes : ℕ → List (Cochain p)) (canonical : (n : ℕ) → AreCanonicalIn p levels n (classes n)) (is_served : IsTrue (served p)) (block : ComplexBlock) (is : IsIndexOf block.facets levels) where
  abbrev listed : Classes
  listed = listed_classes {p = p} levels classes

  in-report : (n : ℕ) → cochains_at {p = p} levels n (classes n) ≡ cochains_in listed n
  in-report n = sym (ap (map cochain_of) ((as-listed p levels classes canonical block.facets is).each n))

  is-matrix : (q : ℕ) (m : Matrix) → IsListed {p = p} keeps levels classes q m → IsMatrix block.facets p listed m
  is-matrix q m h =
      let Are : ℕ → List (List ℕ) → List SimplexCochain → List SimplexCochain → Type 0 = λ n columns zs ws. AllZip (λ column z. HasCoordinates block.facets (n + 1) p ws (bockstein p z) column) columns zs in
      subst (λ (n : ℕ). Are n m.columns (cochains_in listed n) (cochains_in listed (n + 1))) (sym h.from)
      (subst (λ (columns : List (List ℕ)). Are q columns (cochains_in listed q) (cochains_in listed (q + 1))) (sym h.columns)
      (subst (λ (zs : List SimplexCochain). Are q (values_of {p = p} h.made) zs (cochains_in listed (q + 1))) (in-report q)
      (subst (λ (ws : List SimplexCochain). Are q (values_of {p = p} h.made) (cochains_at {p = p} levels q (classes q)) ws) (in-report (q + 1))
      (value-columns p keeps levels classes canonical is_served q block.facets is (classes q) h.made h.matrix.each))))

  are-matrices : (qs : List ℕ) (ms : List Matrix) → AllZip (IsListed {p = p} keeps levels classes) qs ms → (map (λ (m : Matrix). m.from) ms ≡ qs) × Each (IsMatrix block.facets p listed) ms
  are-matrices [] [] h = (refl, tt)
  are-matrices [] (m ∷ ms) h = absurd h
  are-matrices (q ∷ qs) [] h = absurd h
  are-matrices (q ∷ qs) (m ∷ ms) h = let more = are-matrices qs ms h.1 in (ap₂ ◌∷◌ h.0.from more.0, (is-matrix q m h.0, more.1))

  rank-in : (n : ℕ) → length (classes n) ≡ get_or (ranks listed) n 0
  rank-in n =
      sym (get_or-map (λ (cs : List Chain). length cs) listed n [] ∙ ap (λ (cs : List Chain). length cs) ((as-listed p levels classes canonical block.facets is).each n) ∙ length-map (classes n) _)

  live-degrees : filter (is_live {p = p} classes) (numbers_from 0 (length levels)) ≡ bockstein_degrees (ranks listed)
  live-degrees =
      let t : ℕ → Bool = λ q. has_class (ranks listed) q && has_class (ranks listed) (q + 1) in
      filter_agree (is_live {p = p} classes) t (λ q. ap₂ (λ (a b : ℕ). nat_lt 0 a && nat_lt 0 b) (rank-in q) (rank-in (q + 1))) (numbers_from 0 (length levels))
      ∙ ap (λ (k : ℕ). filter t (numbers_from 0 k)) (sym (length-map listed (λ (cs : List Chain). length cs) ∙ count p levels classes canonical))

  pub complex_added : (name old named mid new : List ℕ) → name ≡ block.name → named ≡ old ++ ended (spelled (complex_line name)) → Adds matrix_text (IsListed {p = p} keeps levels classes) (filter (is_live {p = p} classes) (numbers_from 0 (length levels))) named mid
      → new ≡ mid ++ ended (spelled end_line) → Adds bocksteins_text (AreBocksteins p) (block ∷ []) old new
  complex_added name old named mid new same heading added end =
      let are = are-matrices (filter (is_live {p = p} classes) (numbers_from 0 (length levels))) added.parts added.each in
      let b : Bocksteins = record { name = name; matrices = added.parts } in
      one_added bocksteins_text (AreBocksteins p) block b old new
      (record { name = same; classes = listed; canonical = are-classes p levels classes canonical block.facets is; degrees = are.0 ∙ live-degrees; matrices = are.1 })
      (end ∙ ap (λ (t : List ℕ). t ++ ended (spelled end_line)) (added.text_is ∙ ap (λ (t : List ℕ). t ++ flat_map matrix_text added.parts) heading)
      ∙ append_assoc (old ++ ended (spelled (complex_line name))) (flat_map matrix_text added.parts) (ended (spelled end_line))
      ∙ append_assoc old (ended (spelled (complex_line name))) (flat_map matrix_text added.parts ++ ended (spelled end_line)))

pub job_text : (job : Spelled) (p : ℕ) (start headed primed mid text : List ℕ) → job.prime ≡ p → start ≡ [] → headed ≡ start ++ ended (codes "comch bockstein 1") → primed ≡ headed ++ ended (spelled (prime_line p))
    → Adds bocksteins_text (AreBocksteins p) job.complexes primed mid → text ≡ mid ++ ended (spelled done_line) → IsBocksteinText job text
job_text job p start headed primed mid text same none heading prime added done =
    let P : List ℕ = ended (spelled (prime_line p)) in
    let F : List ℕ = flat_map bocksteins_text added.parts in
    let D : List ℕ = ended (spelled done_line) in
    let front : primed ≡ ended (codes "comch bockstein 1") ++ P = prime ∙ ap (λ (t : List ℕ). t ++ P) (heading ∙ ap (λ (t : List ℕ). t ++ ended (codes "comch bockstein 1")) none) in
    record {
      complexes = added.parts;
      each = subst (λ (q : ℕ). AllZip (AreBocksteins q) job.complexes added.parts) (sym same) added.each;
      text_is = done ∙ ap (λ (t : List ℕ). t ++ D) (added.text_is ∙ ap (λ (t : List ℕ). t ++ F) front) ∙ append_assoc (ended (codes "comch bockstein 1") ++ P) F D
          ∙ append_assoc (ended (codes "comch bockstein 1")) P (F ++ D) ∙ ap (λ (q : ℕ). ended (codes "comch bockstein 1") ++ (ended (spelled (prime_line q)) ++ (F ++ D))) (sym same);
    }
