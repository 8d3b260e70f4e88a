-- What the complexes and the maps of a job keep.
use Rattle.std.{proofs.Common.{◌≡◌, ℕ, ◌+◌, ◌<◌, ◌≤◌, ◌^◌, Bool, true, false, List, [], ◌∷◌, ◌++◌, length, map, subst, sym, ap, refl, arith, lit<, append_assoc, append-nil, IsTrue, Ok, Err, Some, None, if◌then◌else◌, is_none, nat_lt, ltb-false}, specs.declared.result.Result.Result, specs.List.list_all, proofs.lemmas.Bool.and_parts}
use Rattle.linear_law.{specs.Names.{Among, Each, IsAscending}, proofs.Names.{each_among, each_get_or, each_itself, each_map}}
use Rattle.simplicial_law.specs.{Names.IsSimplex, ListedSimplices.simplices}
use Rattle.steenrod_law.specs.Names.{IsWeakSimplex}
use Rattle.fp_field.specs.Served.{served}
use Rattle.report_law.{specs.Types.{ComplexBlock, MapBlock, InputKind}, proofs.Names.{complex-ascends, job-maps, job-prime, no-earlier, no-end-fault, no-fault, simplicial}}
use Rattle.complex_file.specs.{Names.{is_not_empty, complex_fault, facet_fault, first_facet_fault, is_complex, is_facet, facets_at, image}, Jobs.is_job}
use Rattle.complex_index.specs.Names.{IsIndexOf, level}
use Rattle.induced_map.specs.Induced.{IsMapIn}
use Rattle.job_report.specs.Jobs.{CanBeIndexed, IsFreeMap}

-- ---- complexes

-- without a fault, no earlier test failed
two-tests : (a b : Bool) (x y : InputKind) → (if a then Some x else (if b then Some y else None)) ≡ None → (a ≡ false) × (b ≡ false)
two-tests true b x y e = absurd cc
two-tests false true x y e = absurd cc
two-tests false false x y e = (refl, refl)

-- the facets behind others are short, and all together have few simplices
all-fit : (before : List (List ℕ)) (at : ℕ) (fs : List (List ℕ)) → first_facet_fault before at fs ≡ None → length (simplices before) ≤ 100000
    → Each (λ f. length f ≤ 16) fs × (length (simplices (before ++ fs)) ≤ 100000)
all-fit before at [] e few = (tt, rw (append-nil before) few)
all-fit before at (f ∷ fs) e few =
    let parts = no-earlier (facet_fault before f) at (first_facet_fault (before ++ f ∷ []) (at + 1) fs) e in
    let tests = two-tests (nat_lt 16 (length f)) (nat_lt 100000 (length (simplices (before ++ f ∷ [])))) _ _ parts.0 in
    let rest = all-fit (before ++ f ∷ []) (at + 1) fs parts.1 (ltb-false _ _ tests.1) in
    ((ltb-false _ _ tests.0, rest.0), subst (λ (xs : List (List ℕ)). length (simplices xs) ≤ 100000) (append_assoc before (f ∷ []) fs) rest.1)

some-vertex : (facets : List (List ℕ)) → list_all is_facet facets ≡ true → Each (λ f. 0 < length f) facets
some-vertex [] h = tt
some-vertex (f ∷ fs) h = (first f (and_parts (is_not_empty f) _ (and_parts (is_facet f) (list_all is_facet fs) h).0).0, some-vertex fs (and_parts (is_facet f) (list_all is_facet fs) h).1)
  where
    first : (g : List ℕ) → is_not_empty g ≡ true → 0 < length g
    first [] k = absurd cc
    first (v ∷ vs) k = omega arith

complex-fits : (facets : List (List ℕ)) → is_complex facets ≡ true → CanBeIndexed facets
unfolding simplices
complex-fits facets e =
    let fit = all-fit [] 0 facets (no-fault (complex_fault facets) (and_parts (list_all is_facet facets) (is_none (complex_fault facets)) e).1) (omega arith) in
    let least : 100000 < 2 ^ 32 = lit< tt in
    record { ascending = complex-ascends facets e; some = some-vertex facets (and_parts (list_all is_facet facets) (is_none (complex_fault facets)) e).0; short = fit.0; few = omega (arith, fit.1, least) }

-- each complex of a job can be indexed
pub job-fits : (p : ℕ) (cs : List ComplexBlock) (ms : List MapBlock) → is_job p cs ms ≡ true → Each (λ b. CanBeIndexed b.facets) cs
unfolding is_job
job-fits p cs ms e = go cs (and_parts (list_all (λ (b : ComplexBlock). is_complex b.facets) cs) _ (and_parts _ _ (and_parts _ _ (and_parts (served p) _ e).1).1).1).0
  where
    go : (bs : List ComplexBlock) → list_all (λ (b : ComplexBlock). is_complex b.facets) bs ≡ true → Each (λ b. CanBeIndexed b.facets) bs
    go [] k = tt
    go (b ∷ bs) k = let parts = and_parts (is_complex b.facets) (list_all (λ (b : ComplexBlock). is_complex b.facets) bs) k in (complex-fits b.facets parts.0, go bs parts.1)

-- ---- maps

pub free-maps : (p : ℕ) (cs : List ComplexBlock) (ms : List MapBlock) → is_job p cs ms ≡ true → Each (IsFreeMap cs) ms
free-maps p cs ms e = each_map (λ m h. record { from = h.from; to = h.to; free = h.free }) ms (job-maps p cs ms e)

-- a simplex of a complex is one of each with the same levels
same-simplex : (facets others : List (List ℕ)) (levels : List (List (List ℕ))) → IsIndexOf facets levels → IsIndexOf others levels → (n : ℕ) (s : List ℕ) → IsSimplex facets n s → IsSimplex others n s
same-simplex facets others levels is ot n s on =
    let k = (is.lists n).whole s on in
    subst (IsSimplex others n) (k.2 []) (each_get_or (IsSimplex others n) (level levels n) k.0 [] k.1 (ot.lists n).sound)

-- so with simplices in which vertices may repeat
same-weak : (facets others : List (List ℕ)) (levels : List (List (List ℕ))) → IsIndexOf facets levels → IsIndexOf others levels → Each IsAscending facets
    → (v : ℕ) (vs : List ℕ) → IsWeakSimplex facets (v ∷ vs) → IsWeakSimplex others (v ∷ vs)
same-weak facets others levels is ot up v vs w = from w.facet w.listed w.within
  where
    wider : (g h s : List ℕ) → Each (λ x. Among x h) g → Each (λ x. Among x g) s → Each (λ x. Among x h) s
    wider g h [] a b = tt
    wider g h (x ∷ xs) a b = (each_among (λ x. Among x h) x g a b.0, wider g h xs a b.1)

    from : (g : List ℕ) → Among g facets → Each (λ x. Among x g) (v ∷ vs) → IsWeakSimplex others (v ∷ vs)
    from [] m h = absurd h.0
    from (x ∷ xs) m h =
        let on = same-simplex facets others levels is ot (length xs) (x ∷ xs)
        (record { ascending = each_among IsAscending (x ∷ xs) facets up m; size = omega arith; facet = x ∷ xs; listed = m; within = each_itself (x ∷ xs) }) in
        record { rising = w.rising; facet = on.facet; listed = on.listed; within = wider (x ∷ xs) on.facet (v ∷ vs) on.within h }

pub map-in : (f : ℕ → ℕ) (cs : List ComplexBlock) (m : MapBlock) (from to : List (List (List ℕ))) → Each (λ c. Each IsAscending c.facets) cs → IsFreeMap cs m
    → IsIndexOf (facets_at cs m.from) from → IsIndexOf (facets_at cs m.to) to → ((v : ℕ) → f v ≡ image m.sends v) → IsMapIn f from to
map-in f cs m from to up free is_from is_to same = record {
  target = facets_at cs m.to;
  is_target = is_to;
  simplicial = λ facets others is_facets is_others n s on.
      let here = simplicial (facets_at cs m.from) (facets_at cs m.to) (ascending m.from free.from) (ascending m.to free.to) m.sends (no-end-fault (facets_at cs m.from) (facets_at cs m.to) [] 0 m.sends free.free) n s
      (same-simplex facets (facets_at cs m.from) from is_facets is_from n s on) in
      let g : f ≡ image m.sends = λ i v. same v i in
      subst (λ (h : ℕ → ℕ). IsWeakSimplex others (map h s)) (sym g) (go others is_others s n on.size here);
}
  where
    ascending : (k : ℕ) → k < length cs → Each IsAscending (facets_at cs k)
    ascending k l = each_get_or (λ (c : ComplexBlock). Each IsAscending c.facets) cs k _ l up

    go : (others : List (List ℕ)) → IsIndexOf others to → (s : List ℕ) (n : ℕ) → length s ≡ n + 1 → IsWeakSimplex (facets_at cs m.to) (map (image m.sends) s) → IsWeakSimplex others (map (image m.sends) s)
    go others is_others [] n e w = absurd (omega (arith, e))
    go others is_others (v ∷ vs) n e w = same-weak (facets_at cs m.to) others to is_to is_others (ascending m.to free.to) (image m.sends v) (map (image m.sends) vs) w

-- ---- the prime, and refusals

pub is-served : (p q : ℕ) (cs : List ComplexBlock) (ms : List MapBlock) → is_job p cs ms ≡ true → p ≡ q → IsTrue (served q)
is-served p q cs ms h e = subst (λ (r : ℕ). IsTrue (served r)) e (job-prime p cs ms h)

pub ascending-facets : (cs : List ComplexBlock) → Each (λ b. CanBeIndexed b.facets) cs → Each (λ b. Each IsAscending b.facets) cs
ascending-facets cs h = each_map (λ b k. k.ascending) cs h

the-error : {X E : Type 0} → E → Result X E → E
the-error d (Ok x) = d
the-error d (Err e) = e

-- errors that are the same among results of one type are so among those of another
pub same-error : {X Y E : Type 0} (a b : E) → ◌≡◌ {A = Result X E} (Err a) (Err b) → ◌≡◌ {A = Result Y E} (Err a) (Err b)
unfolding the-error
same-error {X} {Y} {E} a b h = ap (λ (r : Result X E). Err (the-error a r)) h
