-- The listed simplices are exactly those of the complex.
use Rattle.std.proofs.Common.{◌≡◌, ℕ, ◌+◌, ◌-◌, ◌<◌, ◌⊎◌, inl, inr, arith, refl, sym, ◌∙◌, ap, subst, List, [], ◌∷◌, length, Bool, true, false, cond, eqb, ◌++◌, zero, suc, get_or, Equal}
use Rattle.std.proofs.lemmas.Bool.{cases_eq, cases_lt}
use Rattle.std.proofs.lemmas.List.Kept.{IsStrictlySortedBy-filter}
use Rattle.std.proofs.lemmas.Map.Keys.{Less-from_sorted}
use Rattle.std.specs.List.{fold, filter}
use Rattle.std.specs.List.Sorted.{IsStrictlySortedBy}
use Rattle.std.specs.Cmp.Lexicographic.{nat_list_cmp_total}
use Rattle.std.specs.FinMap.{slice_cmp-IsAntisymmetric, nat_cmp-IsAntisymmetric}
use Rattle.std.specs.BTreeSet.{insert_key}
use Rattle.linear_law.specs.Names.{Each, Among, IsAscending, ListsAll}
use Rattle.linear_law.proofs.Names.{each_among, each_map, each_of_index}
use Rattle.simplicial_law.specs.Names.{IsInOrder, IsSimplex, Precedes, IsClosed, ListedSimplicesLaw, of_degree, simplex_cmp, sublists}
use Rattle.simplicial_law.specs.ListedSimplices.{simplices, with_facet}
use Rattle.simplicial_law.proofs.OrderedKeys.{among_inserted, insert_keeps, insert_puts, sorted_inserted}
use Rattle.simplicial_law.proofs.Order.{lists_strict}
use Rattle.simplicial_law.proofs.SubsetLemmas.{without_first}
use Rattle.simplicial_law.proofs.Sublists.{sublists_cases, sublist_first, sublist_with, sublist_of_rest, sublists_twice}

pub exact : (s t : List ℕ) → simplex_cmp s t ≡ Equal → s ≡ t
exact s t e = slice_cmp-IsAntisymmetric nat_cmp-IsAntisymmetric s t e

pub closed_nil : IsClosed []
unfolding IsStrictlySortedBy
closed_nil = record { ordered = tt; faces = λ s t m n. elim m [ ] }

-- ---- the keys with one more facet

pub of_fold : (ps ks : List (List ℕ)) (t : List ℕ) → Among t (fold (insert_key simplex_cmp) ks ps) → Among t ks ⊎ Among t ps
of_fold [] ks t m = inl m
of_fold (p ∷ ps) ks t m = elim (of_fold ps (insert_key simplex_cmp ks p) t m) [
  | inl a ↦ elim (among_inserted simplex_cmp t p ks a) [ inl b ↦ inl b | inr e ↦ inr (inl e) ]
  | inr b ↦ inr (inr b)
]

pub fold_keeps : (ps ks : List (List ℕ)) (t : List ℕ) → Among t ks → Among t (fold (insert_key simplex_cmp) ks ps)
fold_keeps [] ks t m = m
fold_keeps (p ∷ ps) ks t m = fold_keeps ps (insert_key simplex_cmp ks p) t (insert_keeps simplex_cmp t p ks m)

pub fold_puts : (ps ks : List (List ℕ)) (t : List ℕ) → Among t ps → Among t (fold (insert_key simplex_cmp) ks ps)
fold_puts [] ks t m = elim m [ ]
fold_puts (p ∷ ps) ks t m = elim m [
  | inl e ↦ fold_keeps ps (insert_key simplex_cmp ks p) t (subst (λ (u : List ℕ). Among u (insert_key simplex_cmp ks p)) e (insert_puts simplex_cmp exact p ks))
  | inr n ↦ fold_puts ps (insert_key simplex_cmp ks p) t n
]

pub sorted_fold : (ps ks : List (List ℕ)) → IsStrictlySortedBy simplex_cmp ks → IsStrictlySortedBy simplex_cmp (fold (insert_key simplex_cmp) ks ps)
sorted_fold [] ks h = h
sorted_fold (p ∷ ps) ks h = sorted_fold ps (insert_key simplex_cmp ks p) (sorted_inserted simplex_cmp nat_list_cmp_total p ks h)

each_itself : (xs ys : List ℕ) → ((x : ℕ) → Among x xs → Among x ys) → Each (λ v. Among v ys) xs
each_itself [] ys f = tt
each_itself (x ∷ xs) ys f = (f x (inl refl), each_itself xs ys (λ v m. f v (inr m)))

-- ---- the sublists of an ascending list

pub sublists_keep : (P : ℕ → Type 0) (f t : List ℕ) → Each P f → Among t (sublists f) → Each P t
sublists_keep P [] t h m = elim m [ ]
sublists_keep P (v ∷ vs) t h m = sublists_cases v vs t (Each P t) m
    (λ e. subst (Each P) e (h.0, tt))
    (λ r n e. subst (Each P) e (h.0, sublists_keep P vs r h.1 n))
    (λ n. sublists_keep P vs t h.1 n)

sublists_ascend : (f t : List ℕ) → IsAscending f → Among t (sublists f) → IsAscending t
sublists_ascend [] t h m = elim m [ ]
sublists_ascend (v ∷ vs) t h m = sublists_cases v vs t (IsAscending t) m
    (λ e. subst IsAscending e (tt, tt))
    (λ r n e. subst IsAscending e (sublists_keep (λ w. v < w) vs r h.0 n, sublists_ascend vs r h.1 n))
    (λ n. sublists_ascend vs t h.1 n)

pub sublists_some : (f t : List ℕ) → Among t (sublists f) → 0 < length t
sublists_some [] t m = elim m [ ]
sublists_some (v ∷ vs) t m = sublists_cases v vs t (0 < length t) m
    (λ e. subst (λ (u : List ℕ). 0 < length u) e (omega arith))
    (λ r n e. subst (λ (u : List ℕ). 0 < length u) e (omega arith))
    (λ n. sublists_some vs t n)

sublists_whole : (vs : List ℕ) (w : ℕ) (s : List ℕ) → IsAscending vs → IsAscending (w ∷ s) → Each (λ x. Among x vs) (w ∷ s) → Among (w ∷ s) (sublists vs)
sublists_whole [] w s a b h = elim h.0 [ ]
sublists_whole (v ∷ vs) w s a b h = elim (cases_eq v w) [
  | inl e ↦
      let above : Each (λ x. v < x) s = each_map (λ x c. omega arith) s b.0 in
      subst (λ (x : ℕ). Among (x ∷ s) (sublists (v ∷ vs))) e (first v vs s (sublists_whole vs) a b.1 (without_first v vs s above h.1))
  | inr n ↦
      let later : Among w vs = elim h.0 [ inl e ↦ absurd (n e) | inr k ↦ k ] in
      let above_v : v < w = each_among (λ x. v < x) w vs a.0 later in
      let above : Each (λ x. v < x) (w ∷ s) = (above_v, each_map (λ x c. omega arith) s b.0) in
      sublist_of_rest v vs (w ∷ s) (sublists_whole vs w s a.1 b (without_first v vs (w ∷ s) above h))
]
  where
    first : (v : ℕ) (vs s : List ℕ) → ((w : ℕ) (t : List ℕ) → IsAscending vs → IsAscending (w ∷ t) → Each (λ x. Among x vs) (w ∷ t) → Among (w ∷ t) (sublists vs)) → IsAscending (v ∷ vs) → IsAscending s → Each (λ x. Among x vs) s → Among (v ∷ s) (sublists (v ∷ vs))
    first v vs [] f a b h = sublist_first v vs
    first v vs (w ∷ t) f a b h = sublist_with v vs (w ∷ t) (f w t a.1 b h)

-- ---- the simplices of all facets

pub of_all : (facets ks : List (List ℕ)) (t : List ℕ) → Among t (fold with_facet ks facets) → Among t ks ⊎ ((f : List ℕ) × (Among f facets × Among t (sublists f)))
unfolding with_facet
of_all [] ks t m = inl m
of_all (f ∷ fs) ks t m = elim (of_all fs (with_facet ks f) t m) [
  | inl a ↦ elim (of_fold (sublists f) ks t a) [ inl b ↦ inl b | inr b ↦ inr (f, (inl refl, b)) ]
  | inr h ↦ inr (h.0, (inr h.1.0, h.1.1))
]

all_keep : (facets ks : List (List ℕ)) (t : List ℕ) → Among t ks → Among t (fold with_facet ks facets)
unfolding with_facet
all_keep [] ks t m = m
all_keep (f ∷ fs) ks t m = all_keep fs (with_facet ks f) t (fold_keeps (sublists f) ks t m)

pub all_put : (facets ks : List (List ℕ)) (f t : List ℕ) → Among f facets → Among t (sublists f) → Among t (fold with_facet ks facets)
unfolding with_facet
all_put [] ks f t m n = elim m [ ]
all_put (g ∷ gs) ks f t m n = elim m [
  | inl e ↦ all_keep gs (with_facet ks g) t (fold_puts (sublists g) ks t (subst (λ (u : List ℕ). Among t (sublists u)) (sym e) n))
  | inr k ↦ all_put gs (with_facet ks g) f t k n
]

sorted_all : (facets ks : List (List ℕ)) → IsStrictlySortedBy simplex_cmp ks → IsStrictlySortedBy simplex_cmp (fold with_facet ks facets)
unfolding with_facet
sorted_all [] ks h = h
sorted_all (f ∷ fs) ks h = sorted_all fs (with_facet ks f) (sorted_fold (sublists f) ks h)

pub simplices_sorted : (facets : List (List ℕ)) → IsStrictlySortedBy simplex_cmp (simplices facets)
unfolding simplices
simplices_sorted facets = sorted_all facets [] closed_nil.ordered

-- each one listed is a simplex
pub simplices_sound : (facets : List (List ℕ)) (s : List ℕ) → Each IsAscending facets → Among s (simplices facets) → IsSimplex facets (length s - 1) s
unfolding simplices
simplices_sound facets s h m = elim (of_all facets [] s m) [
  | inl a ↦ elim a [ ]
  | inr k ↦ record {
    ascending = sublists_ascend k.0 s (each_among IsAscending k.0 facets h k.1.0) k.1.1;
    size = omega (arith, sublists_some k.0 s k.1.1);
    facet = k.0;
    listed = k.1.0;
    within = sublists_keep (λ v. Among v k.0) k.0 s (each_itself k.0 k.0 (λ x n. n)) k.1.1;
  }
]

-- each simplex is listed
pub simplices_whole : (facets : List (List ℕ)) (n : ℕ) (s : List ℕ) → Each IsAscending facets → IsSimplex facets n s → Among s (simplices facets)
unfolding simplices
simplices_whole facets n [] h k = absurd (omega (arith, k.size))
simplices_whole facets n (w ∷ s) h k = all_put facets [] k.facet (w ∷ s) k.listed (sublists_whole k.facet w s (each_among IsAscending k.facet facets h k.listed) k.ascending k.within)

-- ---- one degree

pub of_size_sorted : (ks : List (List ℕ)) (size : ℕ) → IsStrictlySortedBy simplex_cmp ks → IsStrictlySortedBy simplex_cmp (filter (λ s. eqb (length s) size) ks)
of_size_sorted ks size h = IsStrictlySortedBy-filter simplex_cmp (λ (s : List ℕ). eqb (length s) size) ks h

filter_step : (b : Bool) (x s : List ℕ) (rest : List (List ℕ)) (P : Type 0) → Among s (cond b (x ∷ rest) rest) → (b ≡ true → x ≡ s → P) → (Among s rest → P) → P
filter_step true x s rest P m f g = elim m [ inl e ↦ f refl e | inr n ↦ g n ]
filter_step false x s rest P m f g = g m

pub of_filter : (p : List ℕ → Bool) (ks : List (List ℕ)) (s : List ℕ) → Among s (filter p ks) → Among s ks × (p s ≡ true)
of_filter p [] s m = elim m [ ]
of_filter p (x ∷ xs) s m = filter_step (p x) x s (filter p xs) (Among s (x ∷ xs) × (p s ≡ true)) m
    (λ t e. (inl e, subst (λ (u : List ℕ). p u ≡ true) e t))
    (λ n. let h = of_filter p xs s n in (inr h.0, h.1))

in_step : (b : Bool) (x s : List ℕ) (rest : List (List ℕ)) → (x ≡ s → b ≡ true) → ((x ≡ s) ⊎ Among s rest) → Among s (cond b (x ∷ rest) rest)
in_step true x s rest f m = m
in_step false x s rest f m = elim m [ inl e ↦ (let q : false ≡ true = f e in absurd (never q)) | inr n ↦ n ]
  where
    never : false ≡ true → ⊥
    never q = cc

pub in_filter : (p : List ℕ → Bool) (ks : List (List ℕ)) (s : List ℕ) → Among s ks → p s ≡ true → Among s (filter p ks)
in_filter p [] s m t = elim m [ ]
in_filter p (x ∷ xs) s m t = in_step (p x) x s (filter p xs) (λ e. ap p e ∙ t) (elim m [ inl e ↦ inl e | inr n ↦ inr (in_filter p xs s n t) ])

pub length_of_test : (s : List ℕ) (n : ℕ) → eqb (length s) n ≡ true → length s ≡ n
length_of_test s n e = grind arith

pub test_of_length : (s : List ℕ) (n : ℕ) → length s ≡ n → eqb (length s) n ≡ true
test_of_length s n e = grind arith

-- ---- the simplices so far are closed, and one more facet

pub simplices_closed : (facets : List (List ℕ)) → IsClosed (simplices facets)
unfolding simplices
simplices_closed facets = record {
  ordered = simplices_sorted facets;
  faces = λ s t m n. elim (of_all facets [] s m) [
    | inl a ↦ elim a [ ]
    | inr k ↦ all_put facets [] k.0 t k.1.0 (sublists_twice k.0 s t k.1.1 n)
  ];
}

fold_push : (facets ks : List (List ℕ)) (f : List ℕ) → fold with_facet ks (facets ++ f ∷ []) ≡ with_facet (fold with_facet ks facets) f
fold_push [] ks f = refl
fold_push (g ∷ gs) ks f = fold_push gs (with_facet ks g) f

pub simplices_push : (facets : List (List ℕ)) (f : List ℕ) → simplices (facets ++ f ∷ []) ≡ with_facet (simplices facets) f
unfolding simplices
simplices_push facets f = fold_push facets [] f

-- ---- in order, and each once

pub sorted_in_order : (ks : List (List ℕ)) → IsStrictlySortedBy simplex_cmp ks → IsInOrder ks
sorted_in_order ks h = λ j k l m. Less-from_sorted simplex_cmp ks j k [] h l m

apart : (ks : List (List ℕ)) (j k : ℕ) → IsStrictlySortedBy simplex_cmp ks → j < k → k < length ks → get_or ks j [] ≡ get_or ks k [] → ⊥
apart ks j k h l m e = lists_strict (get_or ks k []) (subst (λ (s : List ℕ). Precedes s (get_or ks k [])) e (sorted_in_order ks h j k l m))

-- a list in order has each simplex once
pub once_in_order : (ks : List (List ℕ)) (j k : ℕ) → IsStrictlySortedBy simplex_cmp ks → j < length ks → k < length ks → get_or ks j [] ≡ get_or ks k [] → j ≡ k
once_in_order ks j k h l m e = elim (cases_eq j k) [
  | inl q ↦ q
  | inr n ↦ elim (cases_lt j k) [
    | inl a ↦ absurd (apart ks j k h a m e)
    | inr b ↦ absurd (apart ks k j h (omega (arith, n)) l (sym e))
  ]
]

pub place_of_among : {X : Type 0} (x : X) (xs : List X) → Among x xs → (k : ℕ) × (k < length xs) × ((d : X) → get_or xs k d ≡ x)
place_of_among x [] m = elim m [ ]
place_of_among x (y ∷ ys) m = elim m [
  | inl e ↦ (zero, omega arith, λ d. e)
  | inr n ↦ let h = place_of_among x ys n in (suc h.0, omega (arith, h.1), h.2)
]

pub get_or_any : {X : Type 0} (xs : List X) (k : ℕ) (d e : X) → k < length xs → get_or xs k d ≡ get_or xs k e
get_or_any [] k d e h = absurd (omega arith)
get_or_any (x ∷ xs) zero d e h = refl
get_or_any (x ∷ xs) (suc k) d e h = get_or_any xs k d e (omega arith)

pub of_degree_sorted : (facets : List (List ℕ)) (n : ℕ) → IsStrictlySortedBy simplex_cmp (of_degree n (simplices facets))
of_degree_sorted facets n = of_size_sorted (simplices facets) (n + 1) (simplices_sorted facets)

degree_lists_all : (facets : List (List ℕ)) (n : ℕ) → Each IsAscending facets → ListsAll (IsSimplex facets n) (of_degree n (simplices facets))
degree_lists_all facets n h = record {
  sound = each_of_index (IsSimplex facets n) (of_degree n (simplices facets)) (λ s m.
      let q = of_filter (λ t. eqb (length t) (n + 1)) (simplices facets) s m in
      let e : length s ≡ n + 1 = length_of_test s (n + 1) q.1 in
      let d : length s - 1 ≡ n = omega (arith, e) in
      subst (λ (k : ℕ). IsSimplex facets k s) d (simplices_sound facets s h q.0));
  whole = λ s k. place_of_among s (of_degree n (simplices facets))
      (in_filter (λ t. eqb (length t) (n + 1)) (simplices facets) s (simplices_whole facets n s h k) (test_of_length s (n + 1) k.size));
  once = λ j k d l m e. once_in_order (of_degree n (simplices facets)) j k (of_degree_sorted facets n) l m
      (get_or_any (of_degree n (simplices facets)) j [] d l ∙ e ∙ get_or_any (of_degree n (simplices facets)) k d [] m);
}

pub listed_simplices_law : ListedSimplicesLaw
listed_simplices_law = record {
  sound = λ facets s h m. (length s - 1, simplices_sound facets s h m);
  whole = simplices_whole;
  in_order = λ facets. sorted_in_order (simplices facets) (simplices_sorted facets);
  of_one_degree = degree_lists_all;
  degree_in_order = λ facets n. sorted_in_order (of_degree n (simplices facets)) (of_degree_sorted facets n);
}
