-- The levels of an index, one after the other, and what they are together.
use Rattle.std.{proofs.Common.{◌≡◌, ℕ, zero, suc, ◌+◌, ◌-◌, ◌^◌, ◌<◌, ◌≤◌, inl, inr, arith, refl, sym, ◌∙◌, ap, subst, List, [], ◌∷◌, ◌++◌, length, take, take_all, get_or, Bool, true, false, eqb, cond, map, sub-one, append-nil}, proofs.lemmas.Bool.{cases_eq, cases_lt}, proofs.lemmas.Bool.Decides.eqb_tells, proofs.lemmas.List.{get_or-map, get_or_append_left, get_or_past, length-map, map-append, take_more}, specs.List.filter, specs.List.Sorted.IsStrictlySortedBy}
use Rattle.complex_index.specs.Names.{Coface, Level, ArePlaces, ArePlacesOf, AreLevels, Fits, IsIndex, IsIndexOf, IsIndexed, lists, level, cofaces_at, faces_at}
use Rattle.linear_law.{specs.Names.{Each, Among, IsAscending, ListsAll}, proofs.Names.{each_among, each_right, get_last, length_alike, length_push}}
use Rattle.simplicial_law.{specs.Names.{IsInOrder, IsSimplex, faces, IsClosed, of_degree, simplex_cmp, sublists}, specs.ListedSimplices.simplices, proofs.Names.{of_map, sublist_first, sublist_of_rest, sublist_whole, sublist_with, sublists_cases, each_of, in_filter, length_of_test, listed_simplices_law, of_all, of_degree_sorted, of_filter, simplices_closed, test_of_length}}
use Rattle.simplex_set.specs.Levels.{AreLevelsOf, IsLargest}

-- ---- pushing a level

module _ {X : Type 0} (f : Level → List X) where
  part_before : (ls : List Level) (l : Level) (n : ℕ) → n < length ls → get_or (map f (ls ++ l ∷ [])) n [] ≡ get_or (map f ls) n []
  part_before ls l n b = ap (λ (xs : List (List X)). get_or xs n []) (map-append f ls (l ∷ [])) ∙ get_or_append_left (map f ls) (f l ∷ []) [] n (omega (arith, length-map ls f, b))

  part_last : (ls : List Level) (l : Level) (n : ℕ) → n ≡ length ls → get_or (map f (ls ++ l ∷ [])) n [] ≡ f l
  part_last ls l n e = ap (λ k. get_or (map f (ls ++ l ∷ [])) k []) e ∙ get_or-map f (ls ++ l ∷ []) (length ls) l [] (omega (arith, length_push ls l)) ∙ ap f (get_last ls l l)

  pub part_is : (ls : List Level) (i : ℕ) (l : Level) → i < length ls → l ≡ get_or ls i l → f l ≡ get_or (map f ls) i []
  part_is ls i l b e = ap f e ∙ sym (get_or-map f ls i l [] b)

length_lists : (ls : List Level) → length (lists ls) ≡ length ls
length_lists ls = length-map ls (λ (l : Level). l.simplices)

fits_same : (a c p q : List (List ℕ)) (h k : List (List Coface)) → p ≡ q → h ≡ k → Fits a c p h → Fits a c q k
fits_same a c p q h k e f w = subst (λ (x : List (List ℕ) × List (List Coface)). Fits a c x.0 x.1) (λ i. (e i, f i)) w

-- the first n levels
pub record IsPartly (all : List (List (List ℕ))) (n : ℕ) (ls : List Level) : Type 0 where
  pub len : length ls ≡ n
  pub same : lists ls ≡ take n all
  pub fits : (m : ℕ) → m + 1 < length ls → Fits (level all m) (level all (m + 1)) (faces_at ls (m + 1)) (cofaces_at ls (m + 1))

pub partly_none : (all : List (List (List ℕ))) (ls : List Level) → ls ≡ [] → IsPartly all 0 ls
partly_none all ls e = record { len = ap length e; same = ap lists e; fits = λ m h. absurd (omega (arith, ap length e)) }

pub partly_more : (all : List (List (List ℕ))) (n : ℕ) (ls ns : List Level) (l : Level) → n < length all → IsPartly all n ls → ns ≡ ls ++ l ∷ [] → l.simplices ≡ level all n
    → ((m : ℕ) → m + 1 ≡ n → Fits (level all m) (level all n) l.faces l.cofaces) → IsPartly all (n + 1) ns
partly_more all n ls ns l b h q e f = subst (IsPartly all (n + 1)) (sym q) (record {
  len = omega (arith, length_push ls l, h.len);
  same = map-append (λ (k : Level). k.simplices) ls (l ∷ []) ∙ ap (λ (ks : List (List (List ℕ))). ks ++ l.simplices ∷ []) h.same ∙ ap (λ (k : List (List ℕ)). take n all ++ k ∷ []) e ∙ sym (take_more all n [] b);
  fits = λ m k. elim (cases_eq (m + 1) n) [
    | inl i ↦ fits_same (level all m) (level all (m + 1)) l.faces (faces_at (ls ++ l ∷ []) (m + 1)) l.cofaces (cofaces_at (ls ++ l ∷ []) (m + 1))
        (sym (part_last (λ k. k.faces) ls l (m + 1) (i ∙ sym h.len))) (sym (part_last (λ k. k.cofaces) ls l (m + 1) (i ∙ sym h.len)))
        (subst (λ (d : ℕ). Fits (level all m) (level all d) l.faces l.cofaces) (sym i) (f m i))
    | inr d ↦ (let s : m + 1 < length ls = omega (arith, k, length_push ls l, h.len, d) in
        fits_same (level all m) (level all (m + 1)) (faces_at ls (m + 1)) (faces_at (ls ++ l ∷ []) (m + 1)) (cofaces_at ls (m + 1)) (cofaces_at (ls ++ l ∷ []) (m + 1))
        (sym (part_before (λ k. k.faces) ls l (m + 1) s)) (sym (part_before (λ k. k.cofaces) ls l (m + 1) s)) (h.fits m s))
  ];
})

pub partly_all : (all : List (List (List ℕ))) (n : ℕ) (ls : List Level) → length all ≤ n → IsPartly all n ls → IsIndexed all ls
partly_all all n ls l h = record { same = h.same ∙ take_all n all l; fits = h.fits }

-- ---- the faces of the simplices of one degree are those of the degree below

-- each face of a list of more than one vertex is one of its non-empty sublists
faces_are_sublists : (s : List ℕ) → 1 < length s → Each (λ t. Among t (sublists s)) (faces s)
faces_are_sublists [] h = absurd (omega arith)
faces_are_sublists (v ∷ []) h = absurd (omega arith)
faces_are_sublists (v ∷ (w ∷ ws)) h = (
  sublist_of_rest v (w ∷ ws) (w ∷ ws) (sublist_whole w ws),
  each_of (λ t. Among t (sublists (v ∷ (w ∷ ws)))) (map (λ t. v ∷ t) (faces (w ∷ ws)))
      (λ t m. let k = of_map (λ r. v ∷ r) t (faces (w ∷ ws)) m in subst (λ (u : List ℕ). Among u (sublists (v ∷ (w ∷ ws)))) k.1.1 (later ws k.0 k.1.0 (faces_are_sublists (w ∷ ws)))),
)
  where
    later : (xs r : List ℕ) → Among r (faces (w ∷ xs)) → (1 < length (w ∷ xs) → Each (λ t. Among t (sublists (w ∷ xs))) (faces (w ∷ xs))) → Among (v ∷ r) (sublists (v ∷ (w ∷ xs)))
    later [] r m f = elim m [ inl e ↦ subst (λ (u : List ℕ). Among (v ∷ u) (sublists (v ∷ (w ∷ [])))) e (sublist_first v (w ∷ [])) | inr n ↦ elim n [ ] ]
    later (x ∷ xs) r m f = sublist_with v (w ∷ (x ∷ xs)) r (each_among (λ t. Among t (sublists (w ∷ (x ∷ xs)))) r (faces (w ∷ (x ∷ xs))) (f (omega arith)) m)

-- each face has one vertex less
faces_size : (s : List ℕ) → Each (λ t. length t + 1 ≡ length s) (faces s)
faces_size [] = tt
faces_size (v ∷ vs) = (
  omega arith,
  each_of (λ t. length t + 1 ≡ suc (length vs)) (map (λ t. v ∷ t) (faces vs))
      (λ t m. let k = of_map (λ r. v ∷ r) t (faces vs) m in omega (arith, ap length k.1.1, each_among (λ r. length r + 1 ≡ length vs) k.0 (faces vs) (faces_size vs) k.1.0)),
)

faces_below : (ks : List (List ℕ)) (n m : ℕ) → IsClosed ks → m ≡ n + 1 → Each (λ s. Each (λ t. Among t (of_degree n ks)) (faces s)) (of_degree m ks)
faces_below ks n m h e = each_of (λ s. Each (λ t. Among t (of_degree n ks)) (faces s)) (of_degree m ks)
    (λ s k.
    let p = of_filter (λ t. eqb (length t) (m + 1)) ks s k in
    let size : length s ≡ m + 1 = length_of_test s (m + 1) p.1 in
    each_of (λ t. Among t (of_degree n ks)) (faces s) (λ t a.
    let less : length t ≡ n + 1 = omega (arith, each_among (λ u. length u + 1 ≡ length s) t (faces s) (faces_size s) a, size, e) in
    in_filter (λ u. eqb (length u) (n + 1)) ks t (h.faces s t p.0 (each_among (λ u. Among u (sublists s)) t (faces s) (faces_are_sublists s (omega (arith, size, e))) a)) (test_of_length t (n + 1) less)))

pub places_below : (lower upper pss : List (List ℕ)) → ArePlacesOf lower upper pss → Each (λ ps. Each (λ x. x < length lower) ps) pss
places_below lower upper pss h = each_right (ArePlaces lower) (λ ps. Each (λ x. x < length lower) ps) (λ s ps r. r.below) upper pss h

pub length_filter : (p : List ℕ → Bool) (ks : List (List ℕ)) → length (filter p ks) ≤ length ks
length_filter p [] = omega arith
length_filter p (x ∷ xs) = one (p x) (filter p xs) (length_filter p xs)
  where
    one : (b : Bool) (ys : List (List ℕ)) → length ys ≤ length xs → length (cond b (x ∷ ys) ys) ≤ suc (length xs)
    one true ys h = omega arith
    one false ys h = omega arith

pub length_bound : (ks : List (List ℕ)) (n : ℕ) → Each (λ s. length s ≤ 16) ks → IsLargest ks n → n ≤ 16
length_bound ks n h l = elim l.top [
  | inl z ↦ omega (arith, z)
  | inr k ↦ (let b = each_among (λ t. length t ≤ 16) k.0 ks h k.1.0 in omega (arith, b, k.1.1))
]

pub places_length : (lower upper pss : List (List ℕ)) → ArePlacesOf lower upper pss → length pss ≡ length upper
places_length lower upper pss h = length_alike (ArePlaces lower) upper pss h

pub few_places : (lower upper pss : List (List ℕ)) (n : ℕ) → ArePlacesOf lower upper pss → length upper < n → length pss < n
few_places lower upper pss n h l = omega (arith, places_length lower upper pss h)

-- ---- the levels of a complex

sublists_short : (f t : List ℕ) → Among t (sublists f) → length t ≤ length f
sublists_short [] t m = elim m [ ]
sublists_short (v ∷ vs) t m = sublists_cases v vs t (length t ≤ suc (length vs)) m
    (λ e. subst (λ (u : List ℕ). length u ≤ suc (length vs)) e (omega arith))
    (λ r n e. subst (λ (u : List ℕ). length u ≤ suc (length vs)) e (omega (arith, sublists_short vs r n)))
    (λ n. omega (arith, sublists_short vs t n))

pub simplices_short : (facets : List (List ℕ)) → Each (λ f. length f ≤ 16) facets → Each (λ s. length s ≤ 16) (simplices facets)
unfolding simplices
simplices_short facets h = each_of (λ s. length s ≤ 16) (simplices facets)
    (λ s m. elim (of_all facets [] s m) [
      | inl a ↦ elim a [ ]
      | inr k ↦ omega (arith, sublists_short k.0 s k.1.1, each_among (λ f. length f ≤ 16) k.0 facets h k.1.0)
    ])

none_step : (b : Bool) (x : List ℕ) (rest : List (List ℕ)) → b ≡ false → rest ≡ [] → cond b (x ∷ rest) rest ≡ []
none_step b x rest e f = rw e f

not_size : (s : List ℕ) (n m : ℕ) → length s ≤ m → m ≤ n → eqb (length s) (n + 1) ≡ false
not_size s n m h l = elim (eqb_tells (length s) (n + 1)) [ inl k ↦ absurd (omega (arith, k.1)) | inr k ↦ k.0 ]

none_of_degree : (ks : List (List ℕ)) (n m : ℕ) → Each (λ s. length s ≤ m) ks → m ≤ n → of_degree n ks ≡ []
none_of_degree [] n m h l = refl
none_of_degree (s ∷ ss) n m h l = none_step (eqb (length s) (n + 1)) s (of_degree n ss) (not_size s n m h.0 l) (none_of_degree ss n m h.1 l)

pub level_inside : (ls : List (List (List ℕ))) (n k : ℕ) → k < length (level ls n) → n < length ls
level_inside ls n k b = elim (cases_lt n (length ls)) [ inl l ↦ l | inr g ↦ absurd (omega (arith, b, ap length (get_or_past ls n [] g))) ]

-- a list has a sublist of each size up to its own
sublist_of_size : (s : List ℕ) (n : ℕ) → n < length s → (t : List ℕ) × (Among t (sublists s) × (length t ≡ n + 1))
sublist_of_size [] n h = absurd (omega arith)
sublist_of_size (v ∷ vs) zero h = (v ∷ [], (sublist_first v vs, refl))
sublist_of_size (v ∷ vs) (suc n) h = let r = sublist_of_size vs n (omega arith) in (v ∷ r.0, (sublist_with v vs r.0 r.1.0, omega (arith, r.1.1)))

some_among : {X : Type 0} (x : X) (xs : List X) → Among x xs → 0 < length xs
some_among x [] m = elim m [ ]
some_among x (y ∷ ys) m = omega arith

-- below the greatest size each degree has a simplex
degree_inhabited : (ks : List (List ℕ)) (n top : ℕ) → IsClosed ks → IsLargest ks top → n < top → 0 < length (of_degree n ks)
degree_inhabited ks n top c l h = elim l.top [
  | inl z ↦ absurd (omega (arith, z))
  | inr k ↦ (let t = sublist_of_size k.0 n (omega (arith, k.1.1)) in
      some_among t.0 (of_degree n ks) (in_filter (λ u. eqb (length u) (n + 1)) ks t.0 (c.faces k.0 t.0 k.1.0 t.1.0) (test_of_length t.0 (n + 1) t.1.1)))
]

all_levels : (ks : List (List ℕ)) (ls : List (List (List ℕ))) → AreLevelsOf ks ls → (n : ℕ) → level ls n ≡ of_degree n ks
all_levels ks ls h n = elim (cases_lt n (length ls)) [
  | inl a ↦ h.levels n a
  | inr b ↦ get_or_past ls n [] b ∙ sym (none_of_degree ks n (length ls) h.largest.bound b)
]

pub index_is : (facets : List (List ℕ)) (ls : List (List (List ℕ))) → Each IsAscending facets → AreLevelsOf (simplices facets) ls → IsIndexOf facets ls
index_is facets ls a h =
    let by_degree : (n : ℕ) → level ls n ≡ of_degree n (simplices facets) = all_levels (simplices facets) ls h in
    record {
      lists = λ n. subst (λ (xs : List (List ℕ)). ListsAll (IsSimplex facets n) xs) (sym (by_degree n)) (listed_simplices_law.of_one_degree facets n a);
      in_order = λ n. subst IsInOrder (sym (by_degree n)) (listed_simplices_law.degree_in_order facets n);
      inhabited = λ n b. omega (arith, degree_inhabited (simplices facets) n (length ls) (simplices_closed facets) h.largest b, ap length (by_degree n));
    }

pub levels_are : (facets : List (List ℕ)) (ls : List (List (List ℕ))) → length (simplices facets) < 2 ^ 32 → AreLevelsOf (simplices facets) ls → AreLevels ls
levels_are facets ls f h =
    let by_degree : (n : ℕ) → level ls n ≡ of_degree n (simplices facets) = all_levels (simplices facets) ls h in
    record {
      ordered = λ n. subst (IsStrictlySortedBy simplex_cmp) (sym (by_degree n)) (of_degree_sorted facets n);
      sizes = λ n. subst (Each (λ s. length s ≡ n + 1)) (sym (by_degree n))
          (each_of (λ s. length s ≡ n + 1) (of_degree n (simplices facets)) (λ s m. length_of_test s (n + 1) (of_filter (λ t. eqb (length t) (n + 1)) (simplices facets) s m).1));
      small = λ n. omega (arith, ap length (by_degree n), length_filter (λ s. eqb (length s) (n + 1)) (simplices facets), f);
      present = λ n. subst (λ (xs : List (List ℕ)). Each (λ s. Each (λ t. Among t xs) (faces s)) (level ls (n + 1))) (sym (by_degree n))
          (subst (Each (λ s. Each (λ t. Among t (of_degree n (simplices facets))) (faces s))) (sym (by_degree (n + 1))) (faces_below (simplices facets) n (n + 1) (simplices_closed facets) refl));
    }

pub index_made : (facets : List (List ℕ)) (all : List (List (List ℕ))) (ls : List Level) → Each IsAscending facets → Each (λ f. length f ≤ 16) facets → length (simplices facets) < 2 ^ 32
    → AreLevelsOf (simplices facets) all → IsIndexed all ls → IsIndex ls
index_made facets all ls a t f h i = record {
  complex = record { facets = facets; index = subst (IsIndexOf facets) (sym i.same) (index_is facets all a h) };
  levels = subst AreLevels (sym i.same) (levels_are facets all f h);
  indexed = subst (λ (ks : List (List (List ℕ))). IsIndexed ks ls) (sym i.same) i;
  few = omega (arith, length_bound (simplices facets) (length all) (simplices_short facets t) h.largest, ap length i.same, length_lists ls);
}

-- ---- as the code has them

pub nothing_past : (ls : List Level) (n : ℕ) → length ls ≤ n → length (level (lists ls) n) ≡ 0
nothing_past ls n h = ap length (get_or_past (lists ls) n [] (omega (arith, length_lists ls)))

pub inside_is : (ls : List Level) (n k : ℕ) → k < length (level (lists ls) n) → n < length ls
inside_is ls n k h = omega (arith, level_inside (lists ls) n k h, length_lists ls)

pub present_at : (ls : List (List (List ℕ))) (n : ℕ) (lower upper : List (List ℕ)) → AreLevels ls → 0 < n → lower ≡ level ls (n - 1) → upper ≡ level ls n → Each (λ s. Each (λ t. Among t lower) (faces s)) upper
present_at ls zero lower upper a o e f = absurd (omega arith)
present_at ls (suc m) lower upper a o e f =
    let q : suc m ≡ m + 1 = omega arith in
    let low : lower ≡ level ls m = e ∙ ap (level ls) (sub-one (suc m)) in
    let up : upper ≡ level ls (m + 1) = f ∙ ap (level ls) q in
    subst (λ (ks : List (List ℕ)). Each (λ s. Each (λ t. Among t ks) (faces s)) upper) (sym low) (subst (Each (λ s. Each (λ t. Among t (level ls m)) (faces s))) (sym up) (a.present m))

pub fits_at : (ls : List Level) (n : ℕ) → IsIndex ls → 0 < n → n < length ls → Fits (level (lists ls) (n - 1)) (level (lists ls) n) (faces_at ls n) (cofaces_at ls n)
fits_at ls zero i o l = absurd (omega arith)
fits_at ls (suc m) i o l =
    let q : m + 1 ≡ suc m = omega arith in
    subst (λ (d : ℕ). Fits (level (lists ls) d) (level (lists ls) (suc m)) (faces_at ls (suc m)) (cofaces_at ls (suc m))) (sym (sub-one (suc m)))
    (subst (λ (d : ℕ). Fits (level (lists ls) m) (level (lists ls) d) (faces_at ls d) (cofaces_at ls d)) q (i.indexed.fits m (omega arith)))

pub faces_count : (ls : List Level) (n : ℕ) → IsIndex ls → 0 < n → n < length ls → length (faces_at ls n) ≡ length (level (lists ls) n)
faces_count ls n i o l = places_length (level (lists ls) (n - 1)) (level (lists ls) n) (faces_at ls n) (fits_at ls n i o l).places

pub cofaces_count : (ls : List Level) (n : ℕ) → IsIndex ls → n + 1 < length ls → length (cofaces_at ls (n + 1)) ≡ length (level (lists ls) n)
cofaces_count ls n i l = (i.indexed.fits n l).len

-- a simplex stands in the level of its size
pub sized_at : (ls : List Level) (n : ℕ) (s : List ℕ) → IsIndex ls → Among s (level (lists ls) n) → (length s ≡ n + 1) × (n < length ls)
sized_at ls n s i m = (each_among (λ t. length t ≡ n + 1) s (level (lists ls) n) (i.levels.sizes n) m, inside_is ls n 0 (some_among s (level (lists ls) n) m))

pub nowhere_else : (ls : List Level) (n : ℕ) (s : List ℕ) (l : List (List ℕ)) → IsIndex ls → l ≡ level (lists ls) (length s - 1) → (Among (s ++ []) l → ⊥) → Among s (level (lists ls) n) → ⊥
nowhere_else ls n s l i e f m =
    let size : n ≡ length s - 1 = omega (arith, (sized_at ls n s i m).0) in
    f (subst (λ (t : List ℕ). Among t l) (sym (append-nil s)) (subst (Among s) (ap (level (lists ls)) size ∙ sym e) m))
