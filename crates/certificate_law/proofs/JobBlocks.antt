-- The blocks of the certificate of a job have no fault.
use Rattle.std.{proofs.Common.{◌≡◌, ℕ, ◌+◌, ◌-◌, ◌<◌, ◌≤◌, inl, inr, ◌&&◌, ◌==◌, nat_le, Bool, true, false, not, cond, refl, sym, ◌∙◌, ap, ap₂, subst, arith, List, [], ◌∷◌, ◌++◌, length, map, None, Some, append_assoc, nat_lt, eqb-true, le-ltb, ltb-false}, specs.List.{list_all, list_any}, specs.Str.bytes_eq, proofs.lemmas.Bool.{and_parts, false_from_ne_true}}
use Rattle.linear_law.{specs.Names.{Among, Each, IsAscending}, proofs.Names.{apart_short, among_left, among_right, each_unmap, each_of_index}}
use Rattle.simplicial_law.{specs.Names.subsets, specs.ListedSimplices.simplices, proofs.Names.{all_put, of_all, simplices_sorted, simplices_sound, simplices_whole, sorted_in_order}}
use Rattle.certificate_law.{specs.Types.{Sent, FacetTooWide, ImageNotASimplex, NotOrderPreserving, TooManySimplices, VertexNotSent, VertexSentTwice, VertexUnknown, ComplexPart}, specs.Names.{behind, facet_stands, send_stands}, proofs.CanonicalData.in_order_apart, proofs.CompleteComplexes.IsRight, proofs.JobMaps.{among-any, any_from, any_gives, any_sent, eqb_same, sent_among}, proofs.Places.in_append, proofs.PivotCounts.simplex_same_or_not, proofs.SameSimplices.SameSimplices}
use Rattle.complex_file.specs.Names.{ascending, facet_fault, first_facet_fault, has_vertex, end_fault, first_send_fault, image, image_of_facet, is_sent, is_vertex, keeps_edge, keeps_order, keeps_simplices, send_fault, sends_each}
use Rattle.report_law.proofs.Names.{all-among, any-among, no-earlier}

-- ---- facets

-- a complex of some of the facets has at most as many simplices
fewer : (A B : List (List ℕ)) → ((f : List ℕ) → Among f A → Among f B) → length (simplices A) ≤ length (simplices B)
unfolding simplices
fewer A B h =
    apart_short simplex_same_or_not (simplices A) (simplices B) (in_order_apart (simplices A) (sorted_in_order (simplices A) (simplices_sorted A)))
    (each_of_index (λ (t : List ℕ). Among t (simplices B)) (simplices A) (λ t m. elim (of_all A [] t m) [
      | inl none ↦ elim none [ ]
      | inr f ↦ all_put B [] f.0 t (h f.0 f.1.0) f.1.1
    ]))

facet_tests : (a b : Bool) → cond a (Some FacetTooWide) (cond b (Some TooManySimplices) None) ≡ None → (a ≡ false) × (b ≡ false)
facet_tests false false h = (refl, refl)
facet_tests _ _ h = absurd cc

-- what facets without a fault keep
pub record FacetsFit (facets : List (List ℕ)) : Type 0 where
  pub narrow : (f : List ℕ) → Among f facets → nat_lt 16 (length f) ≡ false
  pub few : (f : List ℕ) → Among f facets → length (simplices facets) ≤ 100000

pub narrow_facets : (before : List (List ℕ)) (at : ℕ) (fs : List (List ℕ)) → first_facet_fault before at fs ≡ None → (f : List ℕ) → Among f fs → nat_lt 16 (length f) ≡ false
narrow_facets before at [] h f m = elim m [ ]
narrow_facets before at (g ∷ fs) h f m =
    let parts = no-earlier (facet_fault before g) at (first_facet_fault (before ++ g ∷ []) (at + 1) fs) h in
    elim m [
      | inl e ↦ ap (λ (x : List ℕ). nat_lt 16 (length x)) (sym e) ∙ (facet_tests (nat_lt 16 (length g)) (nat_lt 100000 (length (simplices (before ++ g ∷ [])))) parts.0).0
      | inr k ↦ narrow_facets (before ++ g ∷ []) (at + 1) fs parts.1 f k
    ]

few_simplices : (before : List (List ℕ)) (at : ℕ) (fs : List (List ℕ)) → first_facet_fault before at fs ≡ None → (f : List ℕ) → Among f fs → length (simplices (before ++ fs)) ≤ 100000
few_simplices before at [] h f m = elim m [ ]
few_simplices before at (g ∷ []) h f m =
    let parts = no-earlier (facet_fault before g) at (first_facet_fault (before ++ g ∷ []) (at + 1) []) h in
    ltb-false 100000 (length (simplices (before ++ g ∷ []))) (facet_tests (nat_lt 16 (length g)) (nat_lt 100000 (length (simplices (before ++ g ∷ [])))) parts.0).1
few_simplices before at (g ∷ e ∷ fs) h f m =
    let parts = no-earlier (facet_fault before g) at (first_facet_fault (before ++ g ∷ []) (at + 1) (e ∷ fs)) h in
    subst (λ (gs : List (List ℕ)). length (simplices gs) ≤ 100000) (append_assoc before (g ∷ []) (e ∷ fs)) (few_simplices (before ++ g ∷ []) (at + 1) (e ∷ fs) parts.1 e (inl refl))

pub facets_fit : (facets : List (List ℕ)) → first_facet_fault [] 0 facets ≡ None → FacetsFit facets
facets_fit facets h = record { narrow = narrow_facets [] 0 facets h; few = few_simplices [] 0 facets h }

-- some of such facets have no fault
pub facet_lines : (p : ℕ) (facets : List (List ℕ)) → FacetsFit facets → (before fs : List (List ℕ)) → ((f : List ℕ) → Among f (before ++ fs) → Among f facets) → Each (IsRight p) (behind (λ fs f. facet_stands fs f ∷ []) before fs)
facet_lines p facets h before [] within = tt
facet_lines p facets h before (f ∷ fs) within =
    let here = within f (among_right f before (f ∷ fs) (inl refl)) in
    let few = fewer (before ++ f ∷ []) facets (λ g m. within g (elim (in_append g before (f ∷ []) m) [
      | inl k ↦ among_left g before (f ∷ fs) k
      | inr k ↦ elim k [ inl e ↦ among_right g before (f ∷ fs) (inl e) | inr none ↦ elim none [ ] ]
    ])) in
    let total = h.few f here in
    let wide : nat_lt 16 (length f) ≡ false = h.narrow f here in
    let many : nat_lt 100000 (length (simplices (before ++ f ∷ []))) ≡ false = le-ltb 100000 (length (simplices (before ++ f ∷ []))) (omega (arith, few, total)) in
    let none : facet_fault before f ≡ None = ap (λ (b : Bool). cond b (Some FacetTooWide) (cond (nat_lt 100000 (length (simplices (before ++ f ∷ [])))) (Some TooManySimplices) None)) wide
    ∙ ap (λ (b : Bool). cond b (Some TooManySimplices) None) many in (
      (none, tt, tt, tt, tt, tt, tt, tt),
      facet_lines p facets h (before ++ f ∷ []) fs (λ g m. within g (subst (λ (gs : List (List ℕ)). Among g gs) (append_assoc before (f ∷ []) fs) m)),
    )

-- ---- sends

vertex_of : (v : ℕ) (f : List ℕ) → has_vertex f v ≡ true → Among v f
vertex_of v f h = let q = any_gives (λ w. v == w) f h in subst (λ (w : ℕ). Among w f) (sym (eqb-true v q.0 q.2)) q.1

pub vertex_in : (v : ℕ) (fs : List (List ℕ)) → is_vertex fs v ≡ true → (f : List ℕ) × Among f fs × Among v f
vertex_in v fs h = let q = any_gives (λ f. has_vertex f v) fs h in (q.0, q.1, vertex_of v q.0 q.2)

in_vertex : (v : ℕ) (fs : List (List ℕ)) (f : List ℕ) → Among f fs → Among v f → is_vertex fs v ≡ true
in_vertex v fs f m n = any_from (λ g. has_vertex g v) f fs m (any_from (λ w. v == w) v f n (eqb_same v))

-- a complex with the same simplices has the same vertices
pub vertex_there : {F G : List (List ℕ)} → SameSimplices F G → Each IsAscending F → (v : ℕ) → is_vertex F v ≡ true → is_vertex G v ≡ true
vertex_there {F} {G} h ascending v e =
    let q = vertex_in v F e in
    let on = h.there 0 (v ∷ []) (record { ascending = (tt, tt); size = refl; facet = q.0; listed = q.1; within = (q.2, tt) }) in
    in_vertex v G on.facet on.listed on.within.0

send_tests : (a b : Bool) → cond (not a) (Some VertexUnknown) (cond b (Some VertexSentTwice) None) ≡ None → a ≡ true
send_tests true b h = refl
send_tests false b h = absurd cc

pub known_vertices : (from to : List (List ℕ)) (before : List Sent) (at : ℕ) (ss : List Sent) → first_send_fault from to before at ss ≡ None → Each (λ s. (is_vertex from s.from ≡ true) × (is_vertex to s.to ≡ true)) ss
known_vertices from to before at [] h = tt
known_vertices from to before at (s ∷ ss) h =
    let parts = no-earlier (send_fault from to before s) at (first_send_fault from to (before ++ s ∷ []) (at + 1) ss) h in
    let a = send_tests (is_vertex from s.from && is_vertex to s.to) (is_sent before s.from) parts.0 in
    (and_parts (is_vertex from s.from) (is_vertex to s.to) a, known_vertices from to (before ++ s ∷ []) (at + 1) ss parts.1)

pub send_lines : (p : ℕ) (from to : ComplexPart) (before ss : List Sent) → Each (λ s. (is_vertex from.facets s.from ≡ true) × (is_vertex to.facets s.to ≡ true)) ss → IsAscending (map (λ s. s.from) ss)
    → ((x : Sent) → Among x before → Each (λ s. x.from < s.from) ss) → Each (IsRight p) (behind (λ ss s. send_stands from to ss s ∷ []) before ss)
send_lines p from to before [] known ascending below = tt
send_lines p from to before (s ∷ ss) known ascending below =
    let unsent : is_sent before s.from ≡ false = false_from_ne_true (is_sent before s.from) (λ e. let q = sent_among before s.from e in let l = (below q.0 q.1).0 in let same = q.2 in absurd (omega (arith, l, same))) in
    let none : send_fault from.facets to.facets before s ≡ None = ap (λ b. cond (not b) (Some VertexUnknown) (cond (is_sent before s.from) (Some VertexSentTwice) None)) (ap₂ (λ a b. a && b) known.0.0 known.0.1)
    ∙ ap (λ b. cond b (Some VertexSentTwice) None) unsent in (
      (none, tt, tt, tt, tt, tt, tt, tt),
      send_lines p from to (before ++ s ∷ []) ss known.1 ascending.1 (λ x m. elim (in_append x before (s ∷ []) m) [
        | inl k ↦ (below x k).1
        | inr k ↦ elim k [
          | inl e ↦ subst (λ (u : Sent). Each (λ (t : Sent). u.from < t.from) ss) e (each_unmap (λ (v : ℕ). s.from < v) (λ (t : Sent). t.from) ss ascending.0)
          | inr none ↦ elim none [ ]
        ]
      ]),
    )

-- ---- the end of a map

end_tests : (a b c : Bool) → cond (not a) (Some VertexNotSent) (cond (not b) (Some NotOrderPreserving) (cond (not c) (Some ImageNotASimplex) None)) ≡ None → (a ≡ true) × (b ≡ true) × (c ≡ true)
end_tests true true true h = (refl, refl, refl)
end_tests _ _ _ h = absurd cc

tests_end : (a b c : Bool) → a ≡ true → b ≡ true → c ≡ true → cond (not a) (Some VertexNotSent) (cond (not b) (Some NotOrderPreserving) (cond (not c) (Some ImageNotASimplex) None)) ≡ None
tests_end true true true h k l = refl
tests_end _ _ _ h k l = absurd cc

pub all_of : {X : Type 0} (t : X → Bool) (xs : List X) → ((x : X) → Among x xs → t x ≡ true) → list_all t xs ≡ true
all_of t [] h = refl
all_of t (x ∷ xs) h = ap₂ (λ a b. a && b) (h x (inl refl)) (all_of t xs (λ y m. h y (inr m)))

edge_same : (ss listed : List Sent) → ((v : ℕ) → image listed v ≡ image ss v) → (e : List ℕ) → keeps_edge listed e ≡ keeps_edge ss e
edge_same ss listed h (v ∷ w ∷ []) = ap₂ nat_le (h v) (h w)
edge_same ss listed h _ = refl

-- the map that is listed, between the complexes that are listed, has no fault at its end
pub end_there : (F G : List (List ℕ)) {H K : List (List ℕ)} → ((f : List ℕ) → Among f G → Among f F) → SameSimplices H K → Each IsAscending H → Each IsAscending K → (ss listed : List Sent) → ((v : ℕ) → image listed v ≡ image ss v)
    → ((s : Sent) → Among s ss → Among s listed) → end_fault F H ss ≡ None → end_fault G K listed ≡ None
end_there F G {H} {K} given same ascending_H ascending_K ss listed images all h =
    let t = end_tests (sends_each F ss) (keeps_order F ss) (keeps_simplices F H ss) h in
    tests_end (sends_each G listed) (keeps_order G listed) (keeps_simplices G K listed)
    (all_of (list_all (is_sent listed)) G (λ f m. all_of (is_sent listed) f (λ v n.
    let q = sent_among ss v (all-among (is_sent ss) f v (all-among (list_all (is_sent ss)) F f t.0 (given f m)) n) in
    any_sent listed v q.0 (all q.0 q.1) q.2)))
    (all_of (λ (f : List ℕ). list_all (keeps_edge listed) (subsets 2 f)) G (λ f m. all_of (keeps_edge listed) (subsets 2 f) (λ e n.
    edge_same ss listed images e ∙ all-among (keeps_edge ss) (subsets 2 f) e (all-among (λ (f : List ℕ). list_all (keeps_edge ss) (subsets 2 f)) F f t.1 (given f m)) n)))
    (all_of (λ (f : List ℕ). list_any (bytes_eq (image_of_facet listed f)) (simplices K)) G (λ f m.
    let i : image listed ≡ image ss = λ j v. images v j in
    let k = any-among (image_of_facet ss f) (simplices H) (all-among (λ (f : List ℕ). list_any (bytes_eq (image_of_facet ss f)) (simplices H)) F f t.2 (given f m)) in
    let on = simplices_sound H (image_of_facet ss f) ascending_H k in
    subst (λ (g : ℕ → ℕ). list_any (bytes_eq (ascending (map g f))) (simplices K) ≡ true) (sym i)
    (among-any (image_of_facet ss f) (simplices K) (simplices_whole K (length (image_of_facet ss f) - 1) (image_of_facet ss f) ascending_K (same.there (length (image_of_facet ss f) - 1) (image_of_facet ss f) on)))))
