-- The headline holds of the report of each job.
use Rattle.std.{proofs.Common.{◌≡◌, ℕ, zero, suc, ◌<◌, List, [], ◌∷◌, map, length, get_or, arith, refl, subst, IsTrue}, specs.List.AllZip}
use Rattle.fp_field.{specs.Served.served, proofs.ServedLemmas.served_field}
use Rattle.linear_law.{specs.Names.{Each, IsAscending}, proofs.Names.{each_get_or, each_map, zip_each}}
use Rattle.report_law.{specs.Types.{ComplexBlock, MapBlock, ComplexPart, Form, MapPart}, specs.Names.{ComplexPromise, MapPromise, HeadlineLaw, induced_degrees, AreClasses, Classes, ranks, classes_of, part_at, IsComplexPart, IsInducedPart, IsMapPart}, proofs.CanonicalData.bases-of, proofs.Carrying.{bases_promise, operation_promises, product_promise}, proofs.Coordinates.{AreBases, canonical-are}, proofs.Maps.{IsMapOf, job-complexes, job-maps, job-prime, no-end-fault, simplicial}, proofs.Naturality.induced_promise, proofs.Verdicts.cartan_promises}
use Rattle.complex_file.specs.Names.{Spelled, facets_at, image}
use Rattle.report.specs.Names.{has_details, has_tables}

module _ (form : Form) (p : ℕ) (is_served : IsTrue (served p)) where
  complex-promise : (block : ComplexBlock) (c : ComplexPart) → Each IsAscending block.facets → IsComplexPart (has_tables form) (has_details form) p block c → ComplexPromise form p block c
  complex-promise block c ascending h =
      let canonical = bases-of block.facets ascending p (served_field p is_served) (classes_of c) h.classes in
      let are = canonical-are block.facets p (classes_of c) canonical in record {
        bases = bases_promise block.facets p is_served c are;
        tables = λ has. (let t = h.tables has in record {
          products = each_map (λ x b. product_promise block.facets p is_served c are (has_details form) x b) c.products t.product_parts;
          operations = operation_promises block.facets p is_served c are (has_details form) t.operations t.operation_parts;
          cartans = cartan_promises form block.facets ascending p is_served c canonical t.cartans t.cartan_parts;
        });
      }

  complex-promises : (blocks : List ComplexBlock) (cs : List ComplexPart) → Each (λ b. Each IsAscending b.facets) blocks → AllZip (IsComplexPart (has_tables form) (has_details form) p) blocks cs → AllZip (ComplexPromise form p) blocks cs
  complex-promises blocks cs a h = zip_each (λ b. Each IsAscending b.facets) (IsComplexPart (has_tables form) (has_details form) p) (ComplexPromise form p) complex-promise blocks cs a h

  pub part-of : (blocks : List ComplexBlock) (cs : List ComplexPart) (k : ℕ) → k < length blocks → AllZip (IsComplexPart (has_tables form) (has_details form) p) blocks cs → IsComplexPart (has_tables form) (has_details form) p (get_or blocks k (record { name = []; facets = [] })) (part_at cs k)
  part-of [] cs k l h = absurd (omega (arith, l))
  part-of (b ∷ bs) [] k l h = absurd h
  part-of (b ∷ bs) (c ∷ cs) zero l h = h.0
  part-of (b ∷ bs) (c ∷ cs) (suc k) l h = part-of bs cs k (omega (arith, l)) h.1

pub classes-at : (parts : List ComplexPart) (k : ℕ) → get_or (map classes_of parts) k [] ≡ classes_of (part_at parts k)
classes-at (c ∷ cs) (suc k) = classes-at cs k
classes-at _ _ = refl

module _ (form : Form) (has : IsTrue (has_tables form)) (job : Spelled) (parts : List ComplexPart) (is_served : IsTrue (served job.prime)) (ascending : Each (λ b. Each IsAscending b.facets) job.complexes)
    (are : AllZip (IsComplexPart (has_tables form) (has_details form) job.prime) job.complexes parts) where
  bases : {facets : List (List ℕ)} → Each IsAscending facets → (c : ComplexPart) → AreClasses facets job.prime (classes_of c) → AreBases facets job.prime (classes_of c)
  bases {facets} a c k = canonical-are facets job.prime (classes_of c) (bases-of facets a job.prime (served_field job.prime is_served) (classes_of c) k)

  map-promise : (block : MapBlock) (m : MapPart) → IsMapOf job.complexes block → IsMapPart (has_details form) job (map classes_of parts) block m → MapPromise job parts block m
  map-promise block m is h =
      let K = part-of form job.prime is_served job.complexes parts block.from is.from are in
      let L = part-of form job.prime is_served job.complexes parts block.to is.to are in
      let a = each_get_or (λ b. Each IsAscending b.facets) job.complexes block.from (record { name = []; facets = [] }) is.from ascending in
      let b = each_get_or (λ b. Each IsAscending b.facets) job.complexes block.to (record { name = []; facets = [] }) is.to ascending in
      induced_promise job.prime is_served (image block.sends)
      (facets_at job.complexes block.from) (part_at parts block.from) (bases a (part_at parts block.from) K.classes)
      (facets_at job.complexes block.to) (part_at parts block.to) (bases b (part_at parts block.to) L.classes)
      (simplicial (facets_at job.complexes block.from) (facets_at job.complexes block.to) a b block.sends (no-end-fault (facets_at job.complexes block.from) (facets_at job.complexes block.to) [] 0 block.sends is.free)) (has_details form) m
      (subst (λ (cs : Classes). map (λ x. x.q) m.induced ≡ induced_degrees (ranks cs) (ranks (classes_of (part_at parts block.to)))) (classes-at parts block.from)
      (subst (λ (cs : Classes). map (λ x. x.q) m.induced ≡ induced_degrees (ranks (get_or (map classes_of parts) block.from [])) (ranks cs)) (classes-at parts block.to) h.induced))
      (subst (λ (cs : Classes). Each (IsInducedPart (has_details form) (image block.sends) (facets_at job.complexes block.from) job.prime cs (classes_of (part_at parts block.to))) m.induced) (classes-at parts block.from)
      (subst (λ (cs : Classes). Each (IsInducedPart (has_details form) (image block.sends) (facets_at job.complexes block.from) job.prime (get_or (map classes_of parts) block.from []) cs) m.induced) (classes-at parts block.to) h.induced_parts))
      (K.tables has).operations (K.tables has).operation_parts (L.tables has).operations (L.tables has).operation_parts

  map-promises : (blocks : List MapBlock) (ms : List MapPart) → Each (IsMapOf job.complexes) blocks → AllZip (IsMapPart (has_details form) job (map classes_of parts)) blocks ms → AllZip (MapPromise job parts) blocks ms
  map-promises blocks ms is h = zip_each (IsMapOf job.complexes) (IsMapPart (has_details form) job (map classes_of parts)) (MapPromise job parts) map-promise blocks ms is h

pub headline_law : HeadlineLaw
headline_law form job report kept h =
    let s = job-prime job.prime job.complexes job.maps kept in
    let a = job-complexes job.prime job.complexes job.maps kept in
    record {
      complexes = complex-promises form job.prime s job.complexes report.complexes a h.complexes;
      maps = λ has. map-promises form has job report.complexes s a h.complexes job.maps report.maps (job-maps job.prime job.complexes job.maps kept) (h.maps has);
    }
