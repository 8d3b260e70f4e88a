-- A torus of the sample family is a job.
use Rattle.std.{proofs.Common.{◌≡◌, ℕ, zero, suc, ◌+◌, ◌-◌, ◌*◌, ◌%◌, ◌<◌, ◌≤◌, ◌==◌, ◌&&◌, ◌⊎◌, inl, inr, true, false, IsTrue, refl, sym, ◌∙◌, ap, ap₂, arith, List, [], ◌∷◌, ◌++◌, length, None, append_assoc, codes, flat_map, fold, is_none, nat_le, nat_lt, le-leb, le-ltb, ne_eqb, length-append}, specs.List.list_all, specs.BTreeSet.insert_key, proofs.Math.Nat.{mod-eq-sub-mod, mod-eq_of_lt}, proofs.lemmas.Bool.{and_from, cases_lt}, proofs.lemmas.List.Folds.list_all-append, specs.Ordering.{match_ordering, nat_cmp}, specs.declared.cmp.Ordering.Ordering, specs.declared.cmp.Ordering.TheVariants.{Less, Equal, Greater}, proofs.lemmas.Grind.flat_map-append}
use Rattle.linear_law.{specs.Names.Each, proofs.Names.each_append}
use Rattle.signed_sum.specs.Names.{numbers_from}
use Rattle.fp_field.specs.Served.{served}
use Rattle.simplicial_law.specs.{Names.{simplex_cmp, sublists}, ListedSimplices.{simplices, with_facet}}
use Rattle.complex_file.{specs.Names.{ascending, complex_fault, facet_fault, first_facet_fault, has_repeat, is_complex, is_facet, or_later}, specs.declared.block.ComplexBlock.ComplexBlock, specs.declared.block.MapBlock.MapBlock, specs.Jobs.is_job, proofs.FacetLemmas.facet_from}
use Rattle.sample_torus.specs.Torus.{torus_facets, torus_job, triangles_at}

-- ---- places on the circle

-- a number below 2 * m, modulo m
wrapped : (m v : ℕ) → v < 2 * m → (v % m < m) × ((v % m ≡ v) ⊎ ((v % m) + m ≡ v))
wrapped m v h = elim (cases_lt v m) [
  | inl l ↦ (let r : v % m ≡ v = mod-eq_of_lt l in (omega (arith, r, l), inl r))
  | inr g ↦ (let e : (v - m) + m ≡ v = omega (arith, g) in
      let r : v % m ≡ v - m = mod-eq-sub-mod g ∙ mod-eq_of_lt (omega (arith, h, g)) in
      (omega (arith, r, h, g), inr (omega (arith, r, e))))
]

-- r is k places behind i on the circle
abbrev IsBehind : ℕ → ℕ → ℕ → ℕ → Type 0
IsBehind m i k r = (r < m) × ((r ≡ i + k) ⊎ (r + m ≡ i + k))

behind : (m i k : ℕ) → 7 ≤ m → i < m → k ≤ 3 → IsBehind m i k ((i + k) % m)
behind m i k large l h = wrapped m (i + k) (omega (arith, large, l, h))

apart : (m i j k r s : ℕ) → 7 ≤ m → j < k → k ≤ 3 → IsBehind m i j r → IsBehind m i k s → (r == s) ≡ false
apart m i j k r s large l h a b = ne_eqb r s (λ e. elim a.1 [
  | inl x ↦ elim b.1 [ inl y ↦ absurd (omega (arith, e, x, y, l)) | inr y ↦ absurd (omega (arith, e, x, y, l, h, large)) ]
  | inr x ↦ elim b.1 [ inl y ↦ absurd (omega (arith, e, x, y, l, h, large)) | inr y ↦ absurd (omega (arith, e, x, y, l)) ]
])

-- ---- triangles

good_triangle : (m i j k r s : ℕ) → 7 ≤ m → m ≤ 1000 → i < m → 0 < j → j < k → k ≤ 3 → IsBehind m i j r → IsBehind m i k s → is_facet (ascending (i ∷ r ∷ s ∷ [])) ≡ true
good_triangle m i j k r s large few l some less most a b =
    let here : IsBehind m i 0 i = (l, inl (omega arith)) in
    let once : has_repeat (i ∷ r ∷ s ∷ []) ≡ false =
    rw (apart m i 0 j i r large some (omega (arith, less, most)) here a, apart m i 0 k i s large (omega (arith, some, less)) most here b, apart m i j k r s large less most a b) refl in
    let first = a.0 in
    let second = b.0 in
    facet_from (i ∷ r ∷ s ∷ [])
    (record {
      some = omega arith;
      small = and_from (nat_le i 999999) _ (le-leb i 999999 (omega (arith, l, few)))
          (and_from (nat_le r 999999) _ (le-leb r 999999 (omega (arith, first, few))) (and_from (nat_le s 999999) true (le-leb s 999999 (omega (arith, second, few))) refl));
    })
    once

good_triangles : (m i : ℕ) → 7 ≤ m → m ≤ 1000 → i < m → list_all is_facet (triangles_at m i) ≡ true
good_triangles m i large few l =
    let one = behind m i 1 large l (omega arith) in
    let two = behind m i 2 large l (omega arith) in
    let three = behind m i 3 large l (omega arith) in
    and_from (is_facet (ascending (i ∷ (i + 1) % m ∷ (i + 3) % m ∷ []))) _ (good_triangle m i 1 3 ((i + 1) % m) ((i + 3) % m) large few l (omega arith) (omega arith) (omega arith) one three)
    (and_from (is_facet (ascending (i ∷ (i + 2) % m ∷ (i + 3) % m ∷ []))) true (good_triangle m i 2 3 ((i + 2) % m) ((i + 3) % m) large few l (omega arith) (omega arith) (omega arith) two three) refl)

good_from : (m i k : ℕ) → 7 ≤ m → m ≤ 1000 → i + k ≤ m → list_all is_facet (flat_map (triangles_at m) (numbers_from i k)) ≡ true
good_from m i zero large few h = refl
good_from m i (suc k) large few h =
    list_all-append is_facet (triangles_at m i) (flat_map (triangles_at m) (numbers_from (suc i) k))
    ∙ and_from (list_all is_facet (triangles_at m i)) _ (good_triangles m i large few (omega (arith, h))) (good_from m (suc i) k large few (omega (arith, h)))

-- ---- how many simplices there are

-- a key more makes a list at most one longer
inserted : {K : Type 0} (cmp : K → K → Ordering) (ks : List K) (k : K) → length (insert_key cmp ks k) ≤ suc (length ks)
inserted cmp [] k = omega arith
inserted cmp (x ∷ xs) k = step (cmp k x) (inserted cmp xs k)
  where
    step : (o : Ordering) → length (insert_key cmp xs k) ≤ suc (length xs) → length (match_ordering o (k ∷ x ∷ xs) (x ∷ xs) (x ∷ insert_key cmp xs k)) ≤ suc (suc (length xs))
    step Less h = omega arith
    step Equal h = omega arith
    step Greater h = omega (arith, h)

all_inserted : {K : Type 0} (cmp : K → K → Ordering) (ks xs : List K) → length (fold (insert_key cmp) ks xs) ≤ length ks + length xs
all_inserted cmp ks [] = omega arith
all_inserted cmp ks (x ∷ xs) = let h = all_inserted cmp (insert_key cmp ks x) xs in let k = inserted cmp ks x in omega (arith, h, k)

few_sublists : (f : List ℕ) → length f ≤ 3 → length (sublists f) ≤ 7
few_sublists [] h = omega arith
few_sublists (a ∷ []) h = omega arith
few_sublists (a ∷ b ∷ []) h = omega arith
few_sublists (a ∷ b ∷ c ∷ []) h = omega arith
few_sublists (a ∷ b ∷ c ∷ d ∷ ds) h = absurd (omega (arith, h))

abbrev AreSmall : List (List ℕ) → Type 0
AreSmall = Each (λ f. length f ≤ 3)

few_more : (ks fs : List (List ℕ)) → AreSmall fs → length (fold with_facet ks fs) ≤ length ks + 7 * length fs
unfolding with_facet
few_more ks [] h = omega arith
few_more ks (f ∷ fs) h =
    let more = few_more (with_facet ks f) fs h.1 in
    let here = all_inserted simplex_cmp ks (sublists f) in
    let seven = few_sublists f h.0 in
    omega (arith, more, here, seven)

few_simplices : (fs : List (List ℕ)) → AreSmall fs → length (simplices fs) ≤ 7 * length fs
unfolding simplices
few_simplices fs h = let k = few_more [] fs h in omega (arith, k)

no_fault : (before : List (List ℕ)) (at : ℕ) (fs : List (List ℕ)) → AreSmall before → AreSmall fs → length before + length fs ≤ 2000 → first_facet_fault before at fs ≡ None
no_fault before at [] b h few = refl
no_fault before at (f ∷ fs) b h few =
    let all = each_append (λ f. length f ≤ 3) before (f ∷ []) b (h.0, tt) in
    let longer = length-append before (f ∷ []) in
    let many = few_simplices (before ++ f ∷ []) all in
    let narrow : nat_lt 16 (length f) ≡ false = (let l = h.0 in le-ltb 16 (length f) (omega (arith, l))) in
    let fits : nat_lt 100000 (length (simplices (before ++ f ∷ []))) ≡ false = le-ltb 100000 (length (simplices (before ++ f ∷ []))) (omega (arith, many, longer, few)) in
    let none : facet_fault before f ≡ None = rw (narrow, fits) refl in
    ap (λ o. or_later o at (first_facet_fault (before ++ f ∷ []) (at + 1) fs)) none ∙ no_fault (before ++ f ∷ []) (at + 1) fs all h.1 (omega (arith, longer, few))

small_triangles : (m i k : ℕ) → AreSmall (flat_map (triangles_at m) (numbers_from i k))
small_triangles m i zero = tt
small_triangles m i (suc k) = (all_inserted nat_cmp [] (i ∷ (i + 1) % m ∷ (i + 3) % m ∷ []), (all_inserted nat_cmp [] (i ∷ (i + 2) % m ∷ (i + 3) % m ∷ []), small_triangles m (suc i) k))

count_triangles : (m i k : ℕ) → length (flat_map (triangles_at m) (numbers_from i k)) ≡ 2 * k
count_triangles m i zero = refl
count_triangles m i (suc k) = let h = count_triangles m (suc i) k in omega (arith, h)

-- ---- the job

pub torus_is_job : (p m : ℕ) → IsTrue (served p) → 7 ≤ m → m ≤ 1000 → is_job p (torus_job p m).complexes (torus_job p m).maps ≡ true
unfolding is_job
torus_is_job p m prime large few =
    let count = count_triangles m 0 m in
    let free : is_none (complex_fault (torus_facets m)) ≡ true = ap is_none (no_fault [] 0 (torus_facets m) tt (small_triangles m 0 m) (omega (arith, count, few))) in
    let whole : is_complex (torus_facets m) ≡ true = and_from (list_all is_facet (torus_facets m)) _ (good_from m 0 m large few (omega arith)) free in
    and_from (served p) _ prime (and_from (is_complex (torus_facets m) && true) true (and_from (is_complex (torus_facets m)) true whole refl) refl)

-- what is built of such a complex is a job
pub torus_kept : (p m : ℕ) (complexes : List ComplexBlock) (maps : List MapBlock) (name : List ℕ) (facets : List (List ℕ)) → complexes ≡ record { name = name; facets = facets } ∷ [] → name ≡ codes "torus" → facets ≡ torus_facets m → maps ≡ []
    → IsTrue (served p) → 7 ≤ m → m ≤ 1000 → is_job p complexes maps ≡ true
torus_kept p m complexes maps name facets cs n fs ms prime large few =
    ap₂ (is_job p) (cs ∙ ap₂ (λ (n : List ℕ) (f : List (List ℕ)). record { name = n; facets = f } ∷ []) n fs) ms ∙ torus_is_job p m prime large few

-- ---- the triangles one after the other

numbers_more : (a k : ℕ) → numbers_from a (suc k) ≡ numbers_from a k ++ (a + k) ∷ []
numbers_more a zero = let e : a ≡ a + 0 = omega arith in ap (λ (n : ℕ). n ∷ []) e
numbers_more a (suc k) = let e : suc a + k ≡ a + suc k = omega arith in ap (λ (ns : List ℕ). a ∷ ns) (numbers_more (suc a) k ∙ ap (λ (n : ℕ). numbers_from (suc a) k ++ n ∷ []) e)

pub triangles_more : (m i : ℕ) (old middle new : List (List ℕ)) (a b : List ℕ) → old ≡ flat_map (triangles_at m) (numbers_from 0 i) → middle ≡ old ++ a ∷ [] → new ≡ middle ++ b ∷ []
    → a ≡ ascending (i ∷ (i + 1) % m ∷ (i + 3) % m ∷ []) → b ≡ ascending (i ∷ (i + 2) % m ∷ (i + 3) % m ∷ []) → new ≡ flat_map (triangles_at m) (numbers_from 0 (i + 1))
triangles_more m i old middle new a b before first second a_is b_is =
    second ∙ ap (λ (fs : List (List ℕ)). fs ++ b ∷ []) first ∙ append_assoc old (a ∷ []) (b ∷ [])
    ∙ ap₂ ◌++◌ before (ap₂ (λ (x y : List ℕ). x ∷ y ∷ []) a_is b_is)
    ∙ sym (ap (flat_map (triangles_at m)) (one_more ∙ numbers_more 0 i ∙ (let e : 0 + i ≡ i = omega arith in ap (λ (n : ℕ). numbers_from 0 i ++ n ∷ []) e)) ∙ flat_map-append (triangles_at m) (numbers_from 0 i) (i ∷ []))
  where
    one_more : numbers_from 0 (i + 1) ≡ numbers_from 0 (suc i)
    one_more = let e : i + 1 ≡ suc i = omega arith in ap (numbers_from 0) e
