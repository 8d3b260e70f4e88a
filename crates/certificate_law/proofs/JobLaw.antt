-- The certificate of a job certifies.
use Rattle.std.{proofs.Common.{◌≡◌, ℕ, zero, suc, ◌+◌, ◌-◌, ◌^◌, ◌<◌, ◌≤◌, ◌&&◌, nat_le, true, false, None, IsTrue, inl, inr, refl, sym, ◌∙◌, ap, ap₂, subst, arith, List, [], ◌∷◌, ◌++◌, length, map, get_or, leb-true, length-append, is_none}, specs.List.{AllZip, list_all}, proofs.lemmas.Bool.{and_parts, false_from_ne_true}, proofs.lemmas.List.map-append}
use Rattle.signed_sum.specs.Names.{numbers_from}
use Rattle.fp_field.specs.Served.{served}
use Rattle.linear_law.{specs.Names.{Among, Each, IsApart, IsAscending}, proofs.Names.{among_left, among_right, each_among, each_append, each_map, each_zip, zip_change, zip_each, each_of_index}}
use Rattle.simplicial_law.{specs.Names.of_degree, specs.ListedSimplices.simplices, proofs.Names.{simplices_sorted, simplices_sound, simplices_whole, sorted_in_order}}
use Rattle.certificate_law.{specs.Types.{ComplexBlock, MapBlock, Sent, ComplexPart, MapPart, Sizes}, specs.Names.{complex_names, map_names, CompleteLaw, complex_named, itself, sent_by, behind, complex_stated, map_stated}, proofs.CompleteComplexes.{IsRight, complex_right}, proofs.CompleteReports.{all_right, map_right}, proofs.JobBlocks.{FacetsFit, end_there, facet_lines, facets_fit, known_vertices, send_lines, vertex_there}, proofs.JobMaps.{among-any, distinct_apart, induced_there, is_function, name_among, named_at, same_image}, proofs.MaximalFacets.{own_facets, same_simplices}, proofs.Places.in_append, proofs.SameSimplices.SameSimplices}
use Rattle.complex_file.specs.{Names.{complex_fault, is_complex, is_facet, Spelled, are_distinct, block_names, facets_at, has_name, is_map, end_fault, image, is_vertex, is_name, name_at}, Jobs.is_job}
use Rattle.report_law.{specs.Names.{induced_degrees, Classes, ranks, classes_of, part_at, ranks_of, IsComplexPart, IsInducedPart, IsMapPart, IsMaximal, AreSizes, passing_sum, sizes_of}, proofs.Names.{classes-at, IsMapOf, any-among, each-all, job-complexes, job-maps, job-prime, no-end-fault, no-fault, sizes_law, same-order}}

-- ---- what a job keeps

pub record Kept (cs : List ComplexBlock) (ms : List MapBlock) : Type 0 where
  pub complexes : length cs ≤ 8
  pub maps : length ms ≤ 8
  distinct : are_distinct (block_names cs ms) ≡ true
  fit : Each (λ b. FacetsFit b.facets) cs

fit_of : (bs : List ComplexBlock) → list_all (λ b. is_complex b.facets) bs ≡ true → Each (λ b. FacetsFit b.facets) bs
fit_of bs h =
    each-all (λ b. is_complex b.facets) (λ b. FacetsFit b.facets)
    (λ b k. facets_fit b.facets (no-fault (complex_fault b.facets) (and_parts (list_all is_facet b.facets) (is_none (complex_fault b.facets)) k).1)) bs h

pub kept_of : (p : ℕ) (cs : List ComplexBlock) (ms : List MapBlock) → is_job p cs ms ≡ true → Kept cs ms
unfolding is_job
kept_of p cs ms h =
    let a = (and_parts (served p) _ h).1 in
    let b = and_parts (nat_le (length cs) 8 && nat_le (length ms) 8) _ a in
    let counts = and_parts (nat_le (length cs) 8) (nat_le (length ms) 8) b.0 in
    let c = and_parts (list_all is_name (block_names cs ms) && are_distinct (block_names cs ms)) _ b.1 in
    record {
      complexes = leb-true (length cs) 8 counts.0;
      maps = leb-true (length ms) 8 counts.1;
      distinct = (and_parts (list_all is_name (block_names cs ms)) (are_distinct (block_names cs ms)) c.0).1;
      fit = fit_of cs (and_parts (list_all (λ (b : ComplexBlock). is_complex b.facets) cs) (list_all (is_map cs) ms) c.1).0;
    }

-- the names of complexes, and then of maps, each once
apart_split : (cs ms : List (List ℕ)) → IsApart (cs ++ ms) → IsApart cs × IsApart ms × Each (λ m. Among m cs → ⊥) ms
apart_split [] ms h = (tt, h, each_of_index (λ (m : List ℕ). Among m [] → ⊥) ms (λ m k n. n))
apart_split (c ∷ cs) ms h =
    let rest = apart_split cs ms h.1 in (
      ((λ m. h.0 (among_left c cs ms m)), rest.0),
      rest.1,
      each_of_index (λ (m : List ℕ). Among m (c ∷ cs) → ⊥) ms (λ m k n. elim n [
        | inl e ↦ h.0 (among_right c cs ms (subst (λ (x : List ℕ). Among x ms) (sym e) k))
        | inr i ↦ each_among (λ (m : List ℕ). Among m cs → ⊥) m ms rest.2 k i
      ]),
    )

-- ---- what is listed of a complex

record IsListed (p : ℕ) (b : ComplexBlock) (c : ComplexPart) : Type 0 where
  name : c.name ≡ b.name
  ascending : Each IsAscending c.facets
  part : IsComplexPart true true p (itself c) c
  given_part : IsComplexPart true true p b c
  same : SameSimplices b.facets c.facets
  given : (f : List ℕ) → Among f c.facets → Among f b.facets
  fit : FacetsFit b.facets
  block_ascending : Each IsAscending b.facets

listed_one : (p : ℕ) (b : ComplexBlock) (c : ComplexPart) → Each IsAscending b.facets → FacetsFit b.facets → IsComplexPart true true p b c → IsListed p b c
listed_one p b c ascending fit part =
    let own = own_facets p b c ascending part in
    record {
      name = part.name;
      ascending = own.0;
      part = own.1;
      given_part = part;
      same = same_simplices b.facets ascending c.facets (part.facets refl);
      given = λ f m. (each_among (IsMaximal b.facets) f c.facets (part.facets refl).each m).given;
      fit = fit;
      block_ascending = ascending;
    }

listed_at : (p : ℕ) (bs : List ComplexBlock) (cs : List ComplexPart) (k : ℕ) → k < length bs → AllZip (IsListed p) bs cs → IsListed p (get_or bs k (record { name = []; facets = [] })) (part_at cs k)
listed_at p [] cs k l h = absurd (omega (arith, l))
listed_at p (b ∷ bs) [] k l h = absurd h
listed_at p (b ∷ bs) (c ∷ cs) zero l h = h.0
listed_at p (b ∷ bs) (c ∷ cs) (suc k) l h = listed_at p bs cs k (omega (arith, l)) h.1

-- the sizes of the job are those of the complexes that the listed facets give
same_sizes : (p : ℕ) → IsTrue (served p) → (bs : List ComplexBlock) (cs : List ComplexPart) (zs : List Sizes) → AllZip (IsListed p) bs cs → AllZip (λ b z. AreSizes p b.facets z) bs zs → zs ≡ map (λ c. sizes_of c.facets c) cs
same_sizes p s [] [] [] h k = refl
same_sizes p s [] (c ∷ cs) zs h k = absurd h
same_sizes p s (b ∷ bs) [] zs h k = absurd h
same_sizes p s (b ∷ bs) (c ∷ cs) (z ∷ zs) h k =
    let F = b.facets in
    let G = c.facets in
    let there : (x : List ℕ) → Among x (simplices F) → Among x (simplices G) =
    λ x m. simplices_whole G (length x - 1) x h.0.ascending (h.0.same.there (length x - 1) x (simplices_sound F x h.0.block_ascending m)) in
    let back : (x : List ℕ) → Among x (simplices G) → Among x (simplices F) =
    λ x m. simplices_whole F (length x - 1) x h.0.block_ascending (h.0.same.back (length x - 1) x (simplices_sound G x h.0.ascending m)) in
    let e : simplices F ≡ simplices G = same-order (simplices F) (simplices G) (sorted_in_order (simplices F) (simplices_sorted F)) (sorted_in_order (simplices G) (simplices_sorted G)) there back in
    ap₂ ◌∷◌
    (sizes_law.one p F z (sizes_of F c) s h.0.block_ascending k.0 (sizes_law.listed true true p b c h.0.given_part)
    ∙ ap (λ (ss : List (List ℕ)). record { simplices = map (λ n. length (of_degree n ss)) (numbers_from 0 (length c.degrees)); ranks = ranks_of c }) e)
    (same_sizes p s bs cs zs h.1 k.1)
same_sizes p s _ _ _ h k = absurd k

-- names that are new stay so behind another
still_new : {X : Type 0} (f : X → List ℕ) (before : List X) (x : X) (ns : List (List ℕ)) → Each (λ n. Among n (map f before) → ⊥) ns → (Among (f x) ns → ⊥) → Each (λ n. Among n (map f (before ++ x ∷ [])) → ⊥) ns
still_new f before x ns new other =
    each_of_index (λ (n : List ℕ). Among n (map f (before ++ x ∷ [])) → ⊥) ns (λ n m i. elim (in_append n (map f before) (f x ∷ []) (subst (λ (ms : List (List ℕ)). Among n ms) (map-append f before (x ∷ [])) i)) [
      | inl k ↦ each_among (λ (n : List ℕ). Among n (map f before) → ⊥) n ns new m k
      | inr k ↦ elim k [ inl e ↦ other (subst (λ (y : List ℕ). Among y ns) (sym e) m) | inr none ↦ elim none [ ] ]
    ])

-- ---- complexes

complexes_fit : (p : ℕ) → IsTrue (served p) → (before : List ComplexPart) (bs : List ComplexBlock) (cs : List ComplexPart) → AllZip (IsListed p) bs cs → length before + length bs ≤ 8 → IsApart (map (λ b. b.name) bs) → Each (λ n. Among n (complex_names before) → ⊥) (map (λ b. b.name) bs)
    → Each (IsRight p) (behind complex_stated before cs)
complexes_fit p s before [] [] h l a n = tt
complexes_fit p s before (b ∷ bs) (c ∷ cs) h l a n =
    let q = h.0 in
    let new : has_name (complex_names before) c.name ≡ false = false_from_ne_true (has_name (complex_names before) c.name) (λ e. n.0 (subst (λ (x : List ℕ). Among x (complex_names before)) q.name (any-among c.name (complex_names before) e))) in
    each_append (IsRight p) (complex_stated before c) (behind complex_stated (before ++ c ∷ []) cs)
    (complex_right p s c q.ascending q.part before (record { few = omega (arith, l); new = new }) (facet_lines p b.facets q.fit [] c.facets q.given))
    (complexes_fit p s (before ++ c ∷ []) bs cs h.1 (let k = length-append before (c ∷ []) in omega (arith, l, k)) a.1
    (still_new (λ (c : ComplexPart). c.name) before c (map (λ (b : ComplexBlock). b.name) bs) n.1 (λ m. a.0 (subst (λ (x : List ℕ). Among x (map (λ (b : ComplexBlock). b.name) bs)) q.name m))))
complexes_fit p s before _ _ h l a n = absurd h

same_names : (p : ℕ) (bs : List ComplexBlock) (cs : List ComplexPart) → AllZip (IsListed p) bs cs → complex_names cs ≡ map (λ b. b.name) bs
same_names p [] [] h = refl
same_names p (b ∷ bs) (c ∷ cs) h = ap₂ ◌∷◌ h.0.name (same_names p bs cs h.1)
same_names p _ _ h = absurd h

-- ---- maps

-- what is listed of a map between two of the complexes
record MapFits (p : ℕ) (cs : List ComplexPart) (b : MapBlock) (m : MapPart) (from to : ComplexPart) : Type 0 where
  name : m.name ≡ b.name
  from_named : has_name (complex_names cs) m.from ≡ true
  to_named : has_name (complex_names cs) m.to ≡ true
  known : Each (λ s. (is_vertex from.facets s.from ≡ true) × (is_vertex to.facets s.to ≡ true)) m.sends
  ascending : IsAscending (map (λ s. s.from) m.sends)
  ends : end_fault from.facets to.facets m.sends ≡ None
  induced : map (λ x. x.q) m.induced ≡ induced_degrees (ranks_of from) (ranks_of to)
  parts : Each (IsInducedPart true (sent_by m) from.facets p (classes_of from) (classes_of to)) m.induced

module _ (job : Spelled) (is_served : IsTrue (served job.prime)) (cs : List ComplexPart) (all : AllZip (IsListed job.prime) job.complexes cs) (distinct : IsApart (map (λ b. b.name) job.complexes)) where
  abbrev IsMapFit : MapBlock → MapPart → Type 0
  IsMapFit b m = MapFits job.prime cs b m (complex_named cs m.from) (complex_named cs m.to)

  at_name : (k : ℕ) → k < length job.complexes → complex_named cs (name_at job.complexes k) ≡ part_at cs k
  at_name k l =
      named_at job.prime job.complexes cs k l distinct
      (zip_change (IsListed job.prime) (IsComplexPart true true job.prime) (λ b c (q : IsListed job.prime b c). q.given_part) job.complexes cs all)

  is_named : (k : ℕ) → k < length job.complexes → has_name (complex_names cs) (name_at job.complexes k) ≡ true
  is_named k l =
      among-any (name_at job.complexes k) (complex_names cs)
      (subst (λ (ns : List (List ℕ)). Among (name_at job.complexes k) ns) (sym (same_names job.prime job.complexes cs all)) (name_among job.complexes k l))

  map_fits : (b : MapBlock) (m : MapPart) → IsMapOf job.complexes b → IsMapPart true job (map classes_of cs) b m → IsMapFit b m
  map_fits b m is h =
      let F = facets_at job.complexes b.from in
      let H = facets_at job.complexes b.to in
      let K = part_at cs b.from in
      let L = part_at cs b.to in
      let from = listed_at job.prime job.complexes cs b.from is.from all in
      let to = listed_at job.prime job.complexes cs b.to is.to all in
      let sends = h.sends refl in
      let images = same_image b.sends m.sends (is_function F H [] 0 b.sends is.free) sends in
      let vertices = known_vertices F H [] 0 b.sends is.free in
      let P : Sent → Type 0 = λ s. (is_vertex F s.from ≡ true) × (is_vertex H s.to ≡ true) in
      let fits : MapFits job.prime cs b m K L = record {
        name = h.name;
        from_named = ap (has_name (complex_names cs)) h.from_name ∙ is_named b.from is.from;
        to_named = ap (has_name (complex_names cs)) h.to_name ∙ is_named b.to is.to;
        known = each_of_index (λ (s : Sent). (is_vertex K.facets s.from ≡ true) × (is_vertex L.facets s.to ≡ true)) m.sends (λ s k.
            let v = each_among P s b.sends vertices (each_among (λ (s : Sent). Among s b.sends) s m.sends sends.each k) in
            (vertex_there from.same from.block_ascending s.from v.0, vertex_there to.same to.block_ascending s.to v.1));
        ascending = sends.ascending;
        ends = end_there F K.facets from.given to.same to.block_ascending to.ascending b.sends m.sends images (λ s k. each_among (λ (s : Sent). Among s m.sends) s b.sends sends.all k)
            (no-end-fault F H [] 0 b.sends is.free);
        induced = subst (λ (k : Classes). map (λ x. x.q) m.induced ≡ induced_degrees (ranks k) (ranks (classes_of L))) (classes-at cs b.from)
            (subst (λ (k : Classes). map (λ x. x.q) m.induced ≡ induced_degrees (ranks (get_or (map classes_of cs) b.from [])) (ranks k)) (classes-at cs b.to) h.induced);
        parts = each_map (λ x k. induced_there from.same (image b.sends) (sent_by m) (λ v. sym (images v)) job.prime (classes_of K) (classes_of L) x k) m.induced
            (subst (λ (k : Classes). Each (IsInducedPart true (image b.sends) F job.prime k (classes_of L)) m.induced) (classes-at cs b.from)
            (subst (λ (k : Classes). Each (IsInducedPart true (image b.sends) F job.prime (get_or (map classes_of cs) b.from []) k) m.induced) (classes-at cs b.to) h.induced_parts));
      } in
      subst (λ (c : ComplexPart). MapFits job.prime cs b m c (complex_named cs m.to)) (sym (ap (complex_named cs) h.from_name ∙ at_name b.from is.from))
      (subst (λ (c : ComplexPart). MapFits job.prime cs b m K c) (sym (ap (complex_named cs) h.to_name ∙ at_name b.to is.to)) fits)

  maps_fit : (before : List MapPart) (bs : List MapBlock) (ms : List MapPart) → AllZip IsMapFit bs ms → length before + length bs ≤ 8 → IsApart (map (λ b. b.name) bs) → Each (λ n. Among n (complex_names cs) → ⊥) (map (λ b. b.name) bs)
      → Each (λ n. Among n (map_names before) → ⊥) (map (λ b. b.name) bs) → Each (IsRight job.prime) (behind (map_stated cs) before ms)
  maps_fit before [] [] h l a c n = tt
  maps_fit before (b ∷ bs) (m ∷ ms) h l a c n =
      let q = h.0 in
      let from = complex_named cs m.from in
      let to = complex_named cs m.to in
      let new : has_name (complex_names cs ++ map_names before) m.name ≡ false =
      false_from_ne_true (has_name (complex_names cs ++ map_names before) m.name) (λ e. elim (in_append m.name (complex_names cs) (map_names before) (any-among m.name (complex_names cs ++ map_names before) e)) [
        | inl k ↦ c.0 (subst (λ (x : List ℕ). Among x (complex_names cs)) q.name k)
        | inr k ↦ n.0 (subst (λ (x : List ℕ). Among x (map_names before)) q.name k)
      ]) in
      each_append (IsRight job.prime) (map_stated cs before m) (behind (map_stated cs) (before ++ m ∷ []) ms)
      (map_right job.prime is_served from to m q.induced q.parts cs before (record { few = omega (arith, l); new = new; from = q.from_named; to = q.to_named }) (send_lines job.prime from to [] m.sends q.known q.ascending (λ x k. elim k [ ])) q.ends)
      (maps_fit (before ++ m ∷ []) bs ms h.1 (let k = length-append before (m ∷ []) in omega (arith, l, k)) a.1 c.1
      (still_new (λ (m : MapPart). m.name) before m (map (λ (b : MapBlock). b.name) bs) n.1 (λ k. a.0 (subst (λ (x : List ℕ). Among x (map (λ (b : MapBlock). b.name) bs)) q.name k))))
  maps_fit before _ _ h l a c n = absurd h

-- ---- the job

pub complete_law : CompleteLaw
complete_law job r is h limit =
    let p : ℕ = job.prime in
    let kept = kept_of p job.complexes job.maps is in
    let s : IsTrue (served p) = job-prime p job.complexes job.maps is in
    let names = apart_split (map (λ (b : ComplexBlock). b.name) job.complexes) (map (λ (b : MapBlock). b.name) job.maps) (distinct_apart (block_names job.complexes job.maps) kept.distinct) in
    let blocks = each_zip {S = λ b. Each IsAscending b.facets × FacetsFit b.facets} (λ b (a : Each IsAscending b.facets) (f : FacetsFit b.facets). (a, f)) job.complexes (job-complexes p job.complexes job.maps is) kept.fit in
    let all = zip_each (λ (b : ComplexBlock). Each IsAscending b.facets × FacetsFit b.facets) (IsComplexPart true true p) (IsListed p) (λ b c q. listed_one p b c q.0 q.1) job.complexes r.complexes blocks h.complexes in
    let fits = map_fits job s r.complexes all names.0 in
    let maps = zip_each (IsMapOf job.complexes) (IsMapPart true job (map classes_of r.complexes)) (λ b m. MapFits p r.complexes b m (complex_named r.complexes m.from) (complex_named r.complexes m.to)) fits job.maps r.maps (job-maps p job.complexes job.maps is) (h.maps refl) in
    let sizes : limit.sizes ≡ map (λ c. sizes_of c.facets c) r.complexes = same_sizes p s job.complexes r.complexes limit.sizes all limit.are in
    let within : passing_sum p (10 ^ 12) (map (λ c. sizes_of c.facets c) r.complexes) ≡ None = subst (λ (zs : List Sizes). passing_sum p (10 ^ 12) zs ≡ None) sizes limit.within in
    let nothing : (ns : List (List ℕ)) → Each (λ n. Among n [] → ⊥) ns = λ ns. each_of_index (λ (n : List ℕ). Among n [] → ⊥) ns (λ n m k. k) in
    let apart = subst (λ (ns : List (List ℕ)). Each (λ m. Among m ns → ⊥) (map (λ (b : MapBlock). b.name) job.maps)) (sym (same_names p job.complexes r.complexes all)) names.2 in
    let complexes = complexes_fit p s [] job.complexes r.complexes all (let k = kept.complexes in omega (arith, k)) names.0 (nothing (map (λ (b : ComplexBlock). b.name) job.complexes)) in
    let rest = maps_fit job s r.complexes all names.0 [] job.maps r.maps maps (let k = kept.maps in omega (arith, k)) names.1 apart (nothing (map (λ (b : MapBlock). b.name) job.maps)) in
    all_right r (subst (λ (q : ℕ). Each (IsRight q) (behind complex_stated [] r.complexes)) (sym h.prime) complexes) (subst (λ (q : ℕ). Each (IsRight q) (behind (map_stated r.complexes) [] r.maps)) (sym h.prime) rest)
    (subst (λ (q : ℕ). passing_sum q (10 ^ 12) (map (λ c. sizes_of c.facets c) r.complexes) ≡ None) (sym h.prime) within)
