-- The simplices so far, and one more with its faces.
use Rattle.std.{proofs.Common.{◌≡◌, ℕ, zero, suc, ◌+◌, ◌<◌, ◌≤◌, ◌⊎◌, inl, inr, arith, ◌||◌, refl, sym, ◌∙◌, ap, subst, List, [], ◌∷◌, ◌++◌, length, take, drop, add-one, get_or, true}, proofs.lemmas.Bool.cases_eq, proofs.lemmas.List.{get_or-map, length-map}, specs.Ordering.is_eq, specs.Str.bytes_eq, proofs.lemmas.Map.Text.is_eq-slice_cmp, specs.Cmp.Lexicographic.nat_list_cmp_total, specs.BTreeSet.insert_key, specs.List.{fold, list_any}, proofs.lemmas.List.Sums.fold_more}
use Rattle.linear_law.specs.Names.{Among}
use Rattle.simplicial_law.{specs.Names.{faces, IsClosed, simplex_cmp, sublists}, specs.ListedSimplices.{simplices, with_facet}, proofs.Names.{among_inserted, insert_keeps, insert_puts, among_found, sorted_inserted, sorted_same, sublists_without, sublist_whole, sublist_whole_or_less, sublists_twice, without, exact, fold_keeps, fold_puts, of_fold, simplices_push, sorted_fold}}

-- ns has what ks has, and s with its faces
pub record IsWith (ks : List (List ℕ)) (s : List ℕ) (ns : List (List ℕ)) : Type 0 where
  pub closed : IsClosed ns
  pub kept : (t : List ℕ) → Among t ks → Among t ns
  pub added : (t : List ℕ) → Among t (sublists s) → Among t ns
  pub sound : (t : List ℕ) → Among t ns → Among t ks ⊎ Among t (sublists s)

-- the same, with the faces without one of the first i vertices in place of all
pub record IsPartly (ks : List (List ℕ)) (s : List ℕ) (i : ℕ) (ns : List (List ℕ)) : Type 0 where
  pub closed : IsClosed ns
  pub kept : (t : List ℕ) → Among t ks → Among t ns
  pub added : (j : ℕ) (t : List ℕ) → j < i → Among t (sublists (without j s)) → Among t ns
  pub sound : (t : List ℕ) → Among t ns → Among t ks ⊎ Among t (sublists s)

pub adding_nothing : (ks : List (List ℕ)) → IsClosed ks → IsWith ks [] ks
adding_nothing ks h = record { closed = h; kept = λ t m. m; added = λ t m. elim m [ ]; sound = λ t m. inl m }

pub adding_present : (ks : List (List ℕ)) (s : List ℕ) → IsClosed ks → Among s ks → IsWith ks s ks
adding_present ks s h a = record { closed = h; kept = λ t m. m; added = λ t m. h.faces s t a m; sound = λ t m. inl m }

pub partly_start : (ks : List (List ℕ)) (s : List ℕ) → IsClosed ks → IsPartly ks s 0 ks
partly_start ks s h = record { closed = h; kept = λ t m. m; added = λ j t l m. absurd (omega arith); sound = λ t m. inl m }

pub partly_step : (ks : List (List ℕ)) (s : List ℕ) (i : ℕ) (ms ns : List (List ℕ)) → IsPartly ks s i ms → IsWith ms (without i s) ns → IsPartly ks s (i + 1) ns
partly_step ks s i ms ns h w = record {
  closed = w.closed;
  kept = λ t m. w.kept t (h.kept t m);
  added = λ j t l m. elim (cases_eq j i) [
    | inl e ↦ w.added t (subst (λ (k : ℕ). Among t (sublists (without k s))) e m)
    | inr n ↦ w.kept t (h.added j t (omega (arith, n)) m)
  ];
  sound = λ t m. elim (w.sound t m) [
    | inl a ↦ h.sound t a
    | inr b ↦ inr (sublists_without i s t b)
  ];
}

-- what was a face of one that is there is there, and what is a face of the new one is there too
faces_there : (s : List ℕ) (i : ℕ) (ms : List (List ℕ)) → length s ≤ i → IsClosed ms → ((j : ℕ) (t : List ℕ) → j < i → Among t (sublists (without j s)) → Among t ms) → (t : List ℕ) → Among t (sublists s) → Among t (insert_key simplex_cmp ms s)
faces_there s i ms l h g t m = elim (sublist_whole_or_less s t m) [
  | inl e ↦ subst (λ (u : List ℕ). Among u (insert_key simplex_cmp ms s)) e (insert_puts simplex_cmp exact s ms)
  | inr k ↦ insert_keeps simplex_cmp t s ms (g k.0 t (omega (arith, k.1.0)) k.1.1)
]

pub adding_whole : (ks : List (List ℕ)) (s : List ℕ) (i : ℕ) (ms : List (List ℕ)) → 0 < length s → length s ≤ i → IsPartly ks s i ms → IsWith ks s (insert_key simplex_cmp ms s)
adding_whole ks s i ms some l h = record {
  closed = record {
    ordered = sorted_inserted simplex_cmp nat_list_cmp_total s ms h.closed.ordered;
    faces = λ u t m n. elim (among_inserted simplex_cmp u s ms m) [
      | inl a ↦ insert_keeps simplex_cmp t s ms (h.closed.faces u t a n)
      | inr e ↦ faces_there s i ms l h.closed h.added t (subst (λ (w : List ℕ). Among t (sublists w)) (sym e) n)
    ];
  };
  kept = λ t m. insert_keeps simplex_cmp t s ms (h.kept t m);
  added = faces_there s i ms l h.closed h.added;
  sound = λ t m. elim (among_inserted simplex_cmp t s ms m) [
    | inl a ↦ h.sound t a
    | inr e ↦ inr (subst (λ (w : List ℕ). Among w (sublists s)) e (itself s some))
  ];
}
  where
    itself : (s : List ℕ) → 0 < length s → Among s (sublists s)
    itself [] h = absurd (omega arith)
    itself (v ∷ vs) h = sublist_whole v vs

pub with_is : (ks : List (List ℕ)) (f : List ℕ) (ns : List (List ℕ)) → IsClosed ks → IsWith ks f ns → ns ≡ with_facet ks f
unfolding with_facet
with_is ks f ns h w = sorted_same simplex_cmp nat_list_cmp_total ns (fold (insert_key simplex_cmp) ks (sublists f)) w.closed.ordered (sorted_fold (sublists f) ks h.ordered)
    (λ t m. elim (w.sound t m) [ inl a ↦ fold_keeps (sublists f) ks t a | inr b ↦ fold_puts (sublists f) ks t b ])
    (λ t m. elim (of_fold (sublists f) ks t m) [ inl a ↦ w.kept t a | inr b ↦ w.added t b ])

-- what the fold makes
pub is_with : (ks : List (List ℕ)) (f : List ℕ) → IsClosed ks → IsWith ks f (with_facet ks f)
unfolding with_facet
is_with ks f h = record {
  closed = record {
    ordered = sorted_fold (sublists f) ks h.ordered;
    faces = λ s t m n. elim (of_fold (sublists f) ks s m) [
      | inl a ↦ fold_keeps (sublists f) ks t (h.faces s t a n)
      | inr b ↦ fold_puts (sublists f) ks t (sublists_twice f s t b n)
    ];
  };
  kept = fold_keeps (sublists f) ks;
  added = fold_puts (sublists f) ks;
  sound = of_fold (sublists f) ks;
}

-- ---- faces as the code makes them

without_suc : (i : ℕ) (s : List ℕ) → i < length s → take i s ++ drop (suc i) s ≡ without i s
without_suc i [] h = absurd (omega arith)
without_suc zero (v ∷ vs) h = refl
without_suc (suc i) (v ∷ vs) h = ap (λ t. v ∷ t) (without_suc i vs (omega arith))

pub length_faces : (s : List ℕ) → length (faces s) ≡ length s
length_faces [] = refl
length_faces (v ∷ vs) = ap suc (length-map (faces vs) (λ t. v ∷ t) ∙ length_faces vs)

pub face_at : (s : List ℕ) (i : ℕ) → i < length s → get_or (faces s) i [] ≡ without i s
face_at [] i h = absurd (omega arith)
face_at (v ∷ vs) zero h = refl
face_at (v ∷ vs) (suc i) h = get_or-map (λ t. v ∷ t) (faces vs) i [] [] (omega (arith, length_faces vs)) ∙ ap (λ t. v ∷ t) (face_at vs i (omega arith))

pub face_made : (i : ℕ) (s : List ℕ) → i < length s → take i s ++ drop (i + 1) s ≡ get_or (faces s) i []
face_made i s h = rw add-one (without_suc i s h) ∙ sym (face_at s i h)

length_without : (i : ℕ) (s : List ℕ) → i < length s → length (without i s) + 1 ≡ length s
length_without i [] h = absurd (omega arith)
length_without zero (v ∷ vs) h = omega arith
length_without (suc i) (v ∷ vs) h = omega (arith, length_without i vs (omega arith))

pub length_face : (i : ℕ) (s : List ℕ) → i < length s → length (get_or (faces s) i []) + 1 ≡ length s
length_face i s h = omega (arith, ap length (face_at s i h), length_without i s h)

-- ---- as the code has them

pub adding_empty : (ks : List (List ℕ)) (s : List ℕ) → IsClosed ks → length s ≡ 0 → ks ≡ with_facet ks s
adding_empty ks [] h e = with_is ks [] ks h (adding_nothing ks h)
adding_empty ks (v ∷ vs) h e = absurd (omega arith)

pub adding_found : (ks : List (List ℕ)) (s : List ℕ) → IsClosed ks → list_any (λ y. is_eq (simplex_cmp s y)) ks ≡ true → ks ≡ with_facet ks s
adding_found ks s h e = with_is ks s ks h (adding_present ks s h (among_found simplex_cmp exact s ks e))

pub adding_face : (ks : List (List ℕ)) (s : List ℕ) (i : ℕ) (f : List ℕ) (ms ns : List (List ℕ)) → i < length s → f ≡ get_or (faces s) i [] → IsPartly ks s i ms → ns ≡ with_facet ms f → IsPartly ks s (i + 1) ns
adding_face ks s i f ms ns l e h w =
    partly_step ks s i ms ns h
    (subst (λ (g : List ℕ). IsWith ms g ns) (e ∙ face_at s i l)
    (subst (λ (ls : List (List ℕ)). IsWith ms f ls) (sym w) (is_with ms f h.closed)))

pub adding_all : (ks : List (List ℕ)) (s : List ℕ) (i : ℕ) (ms ns : List (List ℕ)) → IsClosed ks → 0 < length s → length s ≤ i → IsPartly ks s i ms → ns ≡ insert_key simplex_cmp ms s → ns ≡ with_facet ks s
adding_all ks s i ms ns c some l h e = e ∙ with_is ks s (insert_key simplex_cmp ms s) c (adding_whole ks s i ms some l h)

pub simplices_more : (facets : List (List ℕ)) (i : ℕ) (f : List ℕ) → i < length facets → f ≡ get_or facets i f → simplices (take (i + 1) facets) ≡ with_facet (simplices (take i facets)) f
unfolding simplices
simplices_more facets i f h e = fold_more with_facet [] facets i f h ∙ ap (λ (g : List ℕ). with_facet (fold with_facet [] (take i facets)) g) (sym e)

pub simplices_none : [] ≡ simplices []
unfolding simplices
simplices_none = refl

pub one_more : (facets : List (List ℕ)) (f : List ℕ) (ks ns : List (List ℕ)) → ks ≡ simplices facets → ns ≡ with_facet ks f → ns ≡ simplices (facets ++ f ∷ [])
one_more facets f ks ns h w = w ∙ ap (λ (ms : List (List ℕ)). with_facet ms f) h ∙ sym (simplices_push facets f)

pub next_more : (facets : List (List ℕ)) (i : ℕ) (f : List ℕ) (ks ns : List (List ℕ)) → i < length facets → f ≡ get_or facets i f → ks ≡ simplices (take i facets) → ns ≡ with_facet ks f → ns ≡ simplices (take (i + 1) facets)
next_more facets i f ks ns l e h w = w ∙ ap (λ (ms : List (List ℕ)). with_facet ms f) h ∙ sym (simplices_more facets i f l e)

-- the two tests for a simplex
pub any_simplex : (s : List ℕ) (ks : List (List ℕ)) → list_any (λ y. is_eq (simplex_cmp s y)) ks ≡ list_any (bytes_eq s) ks
any_simplex s [] = refl
any_simplex s (k ∷ ks) = λ i. is_eq-slice_cmp s k i || any_simplex s ks i
