-- The simplices that are faces of no other are the facets that lie in no other.
use Rattle.std.{proofs.Common.{◌≡◌, ◌⊎◌, ℕ, zero, suc, ◌+◌, ◌-◌, ◌<◌, ◌≤◌, inl, inr, refl, sym, ap, ap₂, subst, arith, List, [], ◌∷◌, map, length, get_or}, specs.List.Sorted.IsStrictlySortedBy, proofs.lemmas.Bool.{cases_eq, cases_lt}}
use Rattle.linear_law.{specs.Names.{Among, Each, IsAscending}, proofs.Names.{among_map, each_among, each_itself, each_map, each_of_map, each_zip}}
use Rattle.simplicial_law.{specs.Names.{faces, simplex_cmp, IsSimplex}, proofs.Names.{sorted_in_order, of_map}}
use Rattle.complex_index.specs.Names.{IsIndexOf, level}
use Rattle.report_law.specs.Names.{AreMaximalFacets, IsMaximal, IsWithin}
use Rattle.facet_list.specs.Covered.{IsFaceIn, IsFree}

-- s with the vertex v more, of which s is a face
larger : (P : ℕ → Type 0) (v : ℕ) (s : List ℕ) → (Among v s → ⊥) → IsAscending s → P v → Each P s → (t : List ℕ) × IsAscending t × (length t ≡ suc (length s)) × Among s (faces t) × Each P t
larger P v [] n a h k = (v ∷ [], (tt, tt), refl, inl refl, (h, tt))
larger P v (w ∷ ws) n a h k = elim (cases_lt v w) [
  | inl l ↦ (v ∷ w ∷ ws, ((l, each_map (λ x m. omega (arith, l, m)) ws a.0), a), refl, inl refl, (h, k))
  | inr g ↦
      let l : w < v = elim (cases_eq v w) [ inl e ↦ absurd (n (inl (sym e))) | inr o ↦ elim (cases_lt w v) [ inl l ↦ l | inr u ↦ absurd (o (omega (arith, u, g))) ] ] in
      let q = larger (λ x. P x × (w < x)) v ws (λ m. n (inr m)) a.1 (h, l) (each_zip (λ x b c. (b, c)) ws k.1 a.0) in
      (w ∷ q.0, (each_map (λ x b. b.1) q.0 q.4, q.1), ap suc q.2, inr (among_map (λ t. w ∷ t) ws (w ∷ ws) (faces q.0) q.3 refl), (k.0, each_map (λ x b. b.0) q.0 q.4))
]

-- a face has no vertex of its own
within_face : (t f : List ℕ) → Among f (faces t) → IsWithin f t
within_face [] f m = elim m [ ]
within_face (v ∷ vs) f m = elim m [
  | inl e ↦ subst (λ (g : List ℕ). IsWithin g (v ∷ vs)) e (each_map (λ x k. inr k) vs (each_itself vs))
  | inr k ↦ (let q = of_map (λ (g : List ℕ). v ∷ g) f (faces vs) k in subst (λ (g : List ℕ). IsWithin g (v ∷ vs)) q.1.1 (inl refl, each_map (λ x j. inr j) q.0 (within_face vs q.0 q.1.0)))
]

-- and not all vertices of its simplex
lacks : (t f : List ℕ) → IsAscending t → Among f (faces t) → IsWithin t f → ⊥
lacks [] f a m h = elim m [ ]
lacks (v ∷ vs) f a m h = elim m [
  | inl e ↦ (let b : v < v = each_among (λ (x : ℕ). v < x) v vs a.0 (subst (λ (g : List ℕ). Among v g) (sym e) h.0) in omega (arith, b))
  | inr k ↦
      let q = of_map (λ (g : List ℕ). v ∷ g) f (faces vs) k in
      let w : IsWithin vs (v ∷ q.0) = subst (λ (g : List ℕ). IsWithin vs g) (sym q.1.1) h.1 in
      lacks vs q.0 a.1 q.1.0 (each_zip (λ x l c. elim c [ inl e ↦ absurd (omega (arith, l, e)) | inr j ↦ j ]) vs a.0 w)
]

among_or_not : (v : ℕ) (f : List ℕ) → Among v f ⊎ (Among v f → ⊥)
among_or_not v [] = inr (λ m. m)
among_or_not v (w ∷ f) = elim (cases_eq w v) [
  | inl e ↦ inl (inl e)
  | inr n ↦ elim (among_or_not v f) [ inl k ↦ inl (inr k) | inr o ↦ inr (λ m. elim m [ inl e ↦ n e | inr k ↦ o k ]) ]
]

-- all vertices of h are in s, or one is not
inside : (h s : List ℕ) → IsWithin h s ⊎ ((v : ℕ) × Among v h × (Among v s → ⊥))
inside [] s = inl tt
inside (v ∷ h) s = elim (among_or_not v s) [
  | inr o ↦ inr (v, inl refl, o)
  | inl m ↦ elim (inside h s) [ inl w ↦ inl (m, w) | inr q ↦ inr (q.0, inr q.1, q.2) ]
]

-- ascending lists with the same entries are the same
same_entries : (f g : List ℕ) → IsAscending f → IsAscending g → IsWithin f g → IsWithin g f → f ≡ g
same_entries [] [] a b h k = refl
same_entries [] (w ∷ g) a b h k = absurd k.0
same_entries (v ∷ f) [] a b h k = absurd h.0
same_entries (v ∷ f) (w ∷ g) a b h k =
    let low : w ≤ v = elim h.0 [ inl e ↦ omega (arith, e) | inr m ↦ (let l = each_among (λ (x : ℕ). w < x) v g b.0 m in omega arith) ] in
    let high : v ≤ w = elim k.0 [ inl e ↦ omega (arith, e) | inr m ↦ (let l = each_among (λ (x : ℕ). v < x) w f a.0 m in omega arith) ] in
    let same : v ≡ w = omega (arith, low, high) in
    ap₂ ◌∷◌ same (same_entries f g a.1 b.1
    (each_zip (λ x l c. elim c [ inl e ↦ absurd (omega (arith, l, e, same)) | inr m ↦ m ]) f a.0 h.1)
    (each_zip (λ x l c. elim c [ inl e ↦ absurd (omega (arith, l, e, same)) | inr m ↦ m ]) g b.0 k.1))

module _ (facets : List (List ℕ)) (levels : List (List (List ℕ))) (index : IsIndexOf facets levels) (ascending : Each IsAscending facets) where
  listed_there : (n : ℕ) (s : List ℕ) → IsSimplex facets n s → Among s (level levels n)
  listed_there n s on = let q = (index.lists n).whole s on in subst (λ (t : List ℕ). Among t (level levels n)) (q.2 []) (at q.0 (level levels n) q.1)
    where
      at : (k : ℕ) (ss : List (List ℕ)) → k < length ss → Among (get_or ss k []) ss
      at k [] l = absurd (omega (arith, l))
      at zero (t ∷ ss) l = inl refl
      at (suc k) (t ∷ ss) l = inr (at k ss (omega (arith, l)))

  simplex_there : (n : ℕ) (s : List ℕ) → Among s (level levels n) → IsSimplex facets n s
  simplex_there n s m = each_among (IsSimplex facets n) s (level levels n) (index.lists n).sound m

  -- a facet around a simplex that is no face is that simplex
  around : (n : ℕ) (s g : List ℕ) → IsFree levels n s → Among g facets → IsWithin s g → g ≡ s
  around n s g free m w =
      let on = simplex_there n s free.here in
      let up : IsAscending g = each_among IsAscending g facets ascending m in
      elim (inside g s) [
        | inl h ↦ same_entries g s up on.ascending h w
        | inr q ↦
            let t = larger (λ (x : ℕ). Among x g) q.0 s q.2 on.ascending q.1 w in
            let size = on.size in
            let long = t.2 in
            absurd (free.no_face (t.0, listed_there (n + 1) t.0 (record { ascending = t.1; size = omega (arith, size, long); facet = g; listed = m; within = t.4 }), t.3))
      ]

  pub free_maximal : (n : ℕ) (s : List ℕ) → IsFree levels n s → IsMaximal facets s
  free_maximal n s free =
      let on = simplex_there n s free.here in
      let e = around n s on.facet free on.listed on.within in
      record { given = subst (λ (g : List ℕ). Among g facets) e on.listed; alone = λ g m w. around n s g free m w }

  pub maximal_free : (f : List ℕ) → 0 < length f → IsMaximal facets f → IsFree levels (length f - 1) f
  maximal_free f some h = record {
    here = listed_there (length f - 1) f
        (record { ascending = each_among IsAscending f facets ascending h.given; size = omega (arith, some); facet = f; listed = h.given; within = each_itself f });
    no_face = λ q.
        let on = simplex_there (length f - 1 + 1) q.0 q.1 in
        let w = within_face q.0 f q.2 in
        let e = h.alone on.facet on.listed (each_map (λ x m. each_among (λ (y : ℕ). Among y on.facet) x q.0 on.within m) f w) in
        lacks q.0 f on.ascending q.2 (subst (λ (g : List ℕ). IsWithin q.0 g) e on.within);
  }

  inhabited_below : (n : ℕ) (s : List ℕ) → Among s (level levels n) → n < length levels
  inhabited_below n s m = past n levels m
    where
      past : (n : ℕ) (ls : List (List (List ℕ))) → Among s (level ls n) → n < length ls
      past n [] m = elim m [ ]
      past zero (l ∷ ls) m = omega arith
      past (suc n) (l ∷ ls) m = let h = past n ls m in omega (arith, h)

  -- those of all degrees are the maximal facets
  pub are_maximal : Each (λ f. 0 < length f) facets → (found : List (List ℕ)) → IsStrictlySortedBy simplex_cmp found
      → ((s : List ℕ) → Among s found → (n : ℕ) × IsFree levels n s) → ((n : ℕ) (s : List ℕ) → n < length levels → IsFree levels n s → Among s found)
      → AreMaximalFacets facets found
  are_maximal some found sorted at put = record {
    in_order = sorted_in_order found sorted;
    each = each_map (λ s m. let q = at s m in free_maximal q.0 s q.1) found (each_itself found);
    all = λ f h. let free = maximal_free f (each_among (λ (g : List ℕ). 0 < length g) f facets some h.given) h in put (length f - 1) f (inhabited_below (length f - 1) f free.here) free;
  }
