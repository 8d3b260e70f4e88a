-- What is known of the complexes and the maps of a certificate when a condition is tried.
use Rattle.std.{proofs.Common.{◌≡◌, ℕ, ◌+◌, ◌<◌, ◌≤◌, refl, sym, subst, inl, inr, arith, lit<, lit≤, OnOk, IsSome, true, List, [], ◌∷◌, ◌++◌, map, Ok, Err, ℤ, Result}, specs.List.{AllZip, list_all}, proofs.lemmas.Bool.cases_order}
use Rattle.linear_law.{specs.Names.Each, proofs.Names.{each_map, each_unmap, each_zip, zip_change}}
use Rattle.complex_index.specs.Names.{IsIndexOf}
use Rattle.report.specs.declared.{complex.ComplexPart.ComplexPart, job.Report.Report, map.MapPart.MapPart, plan.Sizes.Sizes}
use Rattle.report_text_law.specs.{Names.{complex_lines as lines_of, map_lines as map_lines_of, is_line}, WellFormed.is_well_formed}
use Rattle.certificate_law.specs.Names.{FailsAt, FailsFirst, Holds, Asks, complex_named, Stated, behind, complex_stated, finish, heading, map_between, map_stated, prime_is, stated}
use Rattle.certificate_walk.{specs.declared.stop.Stop.Stop, specs.declared.stop.Stop.TheVariants.Fails, specs.Names.{FailsBehind, IsWalk}, proofs.Names.walk_both}
use Rattle.may_elements.specs.Stored.{Parts, stored_at}
use Rattle.report_law.specs.Names.{ranks_of, sizes_of}
use Rattle.term_total.specs.Names.{uses}
use Rattle.line_difference.{specs.Elements.AreStored, proofs.PlanLemmas.each-stored}
use Rattle.count_check.specs.Totals.{IsCountable, job_sizes}
use Rattle.cert_check.{specs.Ready.{CanIndex, IsKept, IsMapReady, IsReady}, proofs.FreeLemmas.{holds_none, outer_free}, proofs.PartLemmas.{can_index, complexes_asked, each_of_behind, few_of, formed, low_degrees, maps_asked}}

each_if : {X : Type 0} (A : Type 0) (Q : X → Type 0) (xs : List X) → (A → Each Q xs) → Each (λ x. A → Q x) xs
each_if A Q [] h = tt
each_if A Q (x ∷ xs) h = (λ a. (h a).0, each_if A Q xs (λ a. (h a).1))

each_all : {I X : Type 0} (Q : I → X → Type 0) (xs : List X) → ((i : I) → Each (Q i) xs) → Each (λ x. (i : I) → Q i x) xs
each_all Q [] h = tt
each_all Q (x ∷ xs) h = (λ i. (h i).0, each_all Q xs (λ i. (h i).1))

zip_with : {X Z : Type 0} (R S : X → Z → Type 0) (Q : Z → Type 0) → ((x : X) (z : Z) → R x z → Q z → S x z) → (xs : List X) (zs : List Z) → AllZip R xs zs → Each Q zs → AllZip S xs zs
zip_with R S Q f [] [] h k = tt
zip_with R S Q f [] (z ∷ zs) h k = absurd h
zip_with R S Q f (x ∷ xs) [] h k = absurd h
zip_with R S Q f (x ∷ xs) (z ∷ zs) h k = (f x z h.0 k.0, zip_with R S Q f xs zs h.1 k.1)

-- from condition 2 on, what is asked of a complex does not depend on those before it
any_earlier : (p k : ℕ) (c : ComplexPart) → 2 ≤ k → (b : List ComplexPart) × Each (Asks p k) (complex_stated b c) → (e : List ComplexPart) → Each (Asks p k) (complex_stated e c)
any_earlier p k c l h e = ((outer_free p k l).opens e c, h.1.1)

pub ready_all : (p k : ℕ) (r : Report) (indexes : List (List (List (List ℕ)))) → r.prime ≡ p → AllZip (IsKept p) indexes r.complexes → ((lower : ℕ) → lower < k → Holds lower r) → AllZip (IsReady p k) indexes r.complexes
ready_all p k r indexes e kept h =
    zip_with (IsKept p) (IsReady p k) (λ c. (lower : ℕ) → 2 ≤ lower → lower < k → (earlier : List ComplexPart) → Each (Asks p lower) (complex_stated earlier c)) (λ x c q a. record { kept = q; passed = a }) indexes r.complexes kept
    (each_all (λ (lower : ℕ) (c : ComplexPart). 2 ≤ lower → lower < k → (earlier : List ComplexPart) → Each (Asks p lower) (complex_stated earlier c)) r.complexes
    (λ lower. each_if (2 ≤ lower) (λ (c : ComplexPart). lower < k → (earlier : List ComplexPart) → Each (Asks p lower) (complex_stated earlier c)) r.complexes
    (λ two. each_if (lower < k) (λ (c : ComplexPart). (earlier : List ComplexPart) → Each (Asks p lower) (complex_stated earlier c)) r.complexes
    (λ below. each_map (λ (c : ComplexPart) a. any_earlier p lower c two a) r.complexes (complexes_asked (Asks p lower) r (subst (λ (q : ℕ). Each (Asks q lower) (stated r)) e (h lower below)))))))

-- the same, one condition further
pub ready_more : (p k : ℕ) (indexes : List (List (List (List ℕ)))) (cs : List ComplexPart) → 2 ≤ k → AllZip (IsReady p k) indexes cs → Each (Asks p k) (behind complex_stated [] cs) → AllZip (IsReady p (k + 1)) indexes cs
ready_more p k indexes cs two ready each =
    zip_with (IsReady p k) (IsReady p (k + 1)) (λ c. (b : List ComplexPart) × Each (Asks p k) (complex_stated b c)) (λ x c q a. record {
      kept = q.kept;
      passed = λ lower l b e. elim (cases_order lower k) [
        | inl same ↦ subst (λ (n : ℕ). Each (Asks p n) (complex_stated e c)) (sym same) (any_earlier p k c two a e)
        | inr rest ↦ elim rest [ inl less ↦ q.passed lower l less e | inr more ↦ absurd (omega (arith, more, b)) ]
      ];
    }) indexes cs ready (each_of_behind (Asks p k) complex_stated [] cs each)

pub countable_all : (p : ℕ) (indexes : List (List (List (List ℕ)))) (cs : List ComplexPart) → AllZip (IsReady p 6) indexes cs → AllZip IsCountable indexes cs
countable_all p indexes cs h = zip_change (IsReady p 6) IsCountable (λ x c q. record {
  indexed = record { index = q.kept.index; ascending = q.kept.facets.ascending; low = low_degrees p [] c q.kept.facets (q.passed 2 (lit≤ tt) (lit< tt) []) };
  few = few_of p [] c q.kept.facets.few (q.passed 5 (lit≤ tt) (lit< tt) []);
}) indexes cs h

pub on_ok_map : {X E : Type 0} (r : Result X E) (P Q : Type 0) → (P → Q) → OnOk r P → OnOk r Q
on_ok_map (Ok x) P Q f h = f h
on_ok_map (Err e) P Q f h = tt

pub all_stored : (p : ℕ) (table : Parts) (cs : List ComplexPart) → Each (λ u. IsSome (stored_at u.0 u.1 table)) (uses p (job_sizes cs)) → Each (λ c. AreStored p table (ranks_of c)) cs
all_stored p table cs h = each_unmap (λ (z : Sizes). AreStored p table z.ranks) (λ (c : ComplexPart). sizes_of c.facets c) cs (each-stored p table (job_sizes cs) h)

together : (p k : ℕ) (cs : List ComplexPart) (ms : List MapPart) → Each (λ m. (b : List MapPart) × Each (Asks p 1) (map_stated cs b m)) ms → Each (λ m. list_all (is_line p) (map_lines_of m) ≡ true) ms
    → Each (λ m. 5 < k → (ds : List ComplexPart) (earlier : List MapPart) → Each (Asks p 5) (map_between (complex_named cs m.from) (complex_named cs m.to) ds earlier m)) ms → Each (IsMapReady p k cs) ms
together p k cs [] a b c = tt
together p k cs (m ∷ ms) a b c = (record { from = a.0.1.0.from; to = a.0.1.0.to; formed = b.0; counts = c.0 }, together p k cs ms a.1 b.1 c.1)

pub maps_ready : (p k : ℕ) (r : Report) → r.prime ≡ p → is_well_formed r ≡ true → 2 ≤ k → ((lower : ℕ) → lower < k → Holds lower r) → Each (IsMapReady p k r.complexes) r.maps
maps_ready p k r e f two h =
    let first = maps_asked (Asks p 1) r (subst (λ (q : ℕ). Each (Asks q 1) (stated r)) e (h 1 (omega (arith, two)))) in
    let said = subst (λ (q : ℕ). Each (λ (m : MapPart). list_all (is_line q) (map_lines_of m) ≡ true) r.maps) e (formed r f).maps in
    let counted = each_if (5 < k) (λ (m : MapPart). (ds : List ComplexPart) (earlier : List MapPart) → Each (Asks p 5) (map_between (complex_named r.complexes m.from) (complex_named r.complexes m.to) ds earlier m)) r.maps
    (λ above. each_map {Q = λ (m : MapPart). (ds : List ComplexPart) (earlier : List MapPart) → Each (Asks p 5) (map_between (complex_named r.complexes m.from) (complex_named r.complexes m.to) ds earlier m)} (λ m a ds earlier. (tt, a.1.1)) r.maps (maps_asked (Asks p 5) r (subst (λ (q : ℕ). Each (Asks q 5) (stated r)) e (h 5 above)))) in
    together p k r.complexes r.maps first said counted

-- the complexes of a certificate that meets the first condition can be indexed
pub all_can_index : (r : Report) → is_well_formed r ≡ true → Holds 1 r → Each (λ c. CanIndex c.facets) r.complexes
all_can_index r f h = each_zip (λ (c : ComplexPart) s a. can_index r.prime r.prime a.0 c s a.1) r.complexes (formed r f).complexes (complexes_asked (Asks r.prime 1) r h)

pub kept_all : (p : ℕ) (r : Report) (indexes : List (List (List (List ℕ)))) → r.prime ≡ p → is_well_formed r ≡ true → Holds 1 r → AllZip (λ x c. IsIndexOf c.facets x) indexes r.complexes → AllZip (IsKept p) indexes r.complexes
kept_all p r indexes e f h z =
    let said = subst (λ (q : ℕ). Each (λ (c : ComplexPart). list_all (is_line q) (lines_of c) ≡ true) r.complexes) e (formed r f).complexes in
    zip_with (λ x (c : ComplexPart). IsIndexOf c.facets x) (IsKept p) (λ (c : ComplexPart). CanIndex c.facets × (list_all (is_line p) (lines_of c) ≡ true)) (λ x c i a. record { index = i; facets = a.0; formed = a.1 }) indexes r.complexes z
    (each_zip (λ c a b. (a, b)) r.complexes (all_can_index r f h) said)

-- ---- the walk of a certificate

pub stated_walk : (p k : ℕ) (r : Report) (w : Result ℕ Stop) → 2 ≤ k → IsWalk (Asks p k) 2 (behind complex_stated [] r.complexes ++ (behind (map_stated r.complexes) [] r.maps ++ finish r.complexes ∷ [])) w → IsWalk (Asks p k) 0 (stated r) w
stated_walk p k r w l h =
    let f = outer_free p k l in
    walk_both (Asks p k) 0 (heading ∷ prime_is r.prime ∷ []) (behind complex_stated [] r.complexes ++ (behind (map_stated r.complexes) [] r.maps ++ finish r.complexes ∷ [])) 2 w (refl, (f.head, (f.prime r.prime, tt))) h

pub fails_first : (r : Report) (p k line : ℕ) → r.prime ≡ p → ((lower : ℕ) → lower < k → Holds lower r) → FailsBehind (Asks p k) 0 (stated r) line → FailsFirst r k line
fails_first r p k line e h f = record {
  passed = h;
  fails = subst (λ (q : ℕ). FailsAt (Asks q k) (stated r) line) (sym e) (subst (FailsAt (Asks p k) (stated r)) (let n = f.line_is in omega (arith, n)) f.fails);
}

pub holds_next : (r : Report) (p k last : ℕ) → r.prime ≡ p → ((lower : ℕ) → lower < k → Holds lower r) → IsWalk (Asks p k) 0 (stated r) (Ok last) → (lower : ℕ) → lower < k + 1 → Holds lower r
holds_next r p k last e h w lower b = elim (cases_order lower k) [
  | inl same ↦ subst (λ (q : ℕ). Holds q r) (sym same) (subst (λ (q : ℕ). Each (Asks q k) (stated r)) (sym e) w.1)
  | inr rest ↦ elim rest [ inl less ↦ h lower less | inr more ↦ absurd (omega (arith, more, b)) ]
]

-- ---- one map

pub walk_between : (P : Stated → Type 0) (at : ℕ) (w : Result ℕ Stop) (cs : List ComplexPart) (e : List MapPart) (m : MapPart) {from to source target : ComplexPart} → from ≡ source → to ≡ target → IsWalk P at (map_between from to cs e m) w → IsWalk P at (map_between source target cs e m) w
walk_between P at w cs e m {from} {to} {source} {target} f t h = subst (λ (x : ComplexPart). IsWalk P at (map_between x target cs e m) w) f (subst (λ (y : ComplexPart). IsWalk P at (map_between from y cs e m) w) t h)

pub counts_between : (p : ℕ) (ds : List ComplexPart) (e : List MapPart) (m : MapPart) {from to source target : ComplexPart} → from ≡ source → to ≡ target → Each (Asks p 5) (map_between source target ds e m) → Each (Asks p 5) (map_between from to ds e m)
counts_between p ds e m {from} {to} {source} {target} f t h = subst (λ (x : ComplexPart). Each (Asks p 5) (map_between x to ds e m)) (sym f) (subst (λ (y : ComplexPart). Each (Asks p 5) (map_between source y ds e m)) (sym t) h)

pub maps_walk : (p k : ℕ) (r : Report) (at : ℕ) (w : Result ℕ Stop) {cs : List ComplexPart} {ms : List MapPart} → cs ≡ r.complexes → ms ≡ r.maps → IsWalk (Asks p k) at (behind (map_stated cs) [] ms) w → IsWalk (Asks p k) at (behind (map_stated r.complexes) [] r.maps) w
maps_walk p k r at w {cs} {ms} e f h = subst (λ (xs : List ComplexPart). IsWalk (Asks p k) at (behind (map_stated xs) [] r.maps) w) e (subst (λ (ys : List MapPart). IsWalk (Asks p k) at (behind (map_stated cs) [] ys) w) f h)

pub zip_unmap : {X Y Z : Type 0} (R : X → Y → Type 0) (f : Z → Y) (xs : List X) (zs : List Z) → AllZip R xs (map f zs) → AllZip (λ x z. R x (f z)) xs zs
zip_unmap R f [] [] h = tt
zip_unmap R f [] (z ∷ zs) h = absurd h
zip_unmap R f (x ∷ xs) [] h = absurd h
zip_unmap R f (x ∷ xs) (z ∷ zs) h = (h.0, zip_unmap R f xs zs h.1)

pub first_fails : (r : Report) (line : ℕ) (s : Stop) → s ≡ Fails line → IsWalk (Asks r.prime 1) 0 (stated r) (Err s) → FailsFirst r 1 line
first_fails r line s e w =
    fails_first r r.prime 1 line refl (λ lower b. let z : 0 ≡ lower = omega (arith, b) in subst (λ (n : ℕ). Holds n r) z (holds_none r)) (subst (λ (t : Stop). IsWalk (Asks r.prime 1) 0 (stated r) (Err t)) e w)
