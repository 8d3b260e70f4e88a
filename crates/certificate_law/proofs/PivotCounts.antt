-- The pivots of the cocycles of one degree and of the coboundaries of the next: together they are no more
-- than the simplices of that degree.
use Rattle.std.proofs.{Common.{◌≡◌, ℕ, ◌+◌, ◌<◌, ◌≤◌, ◌≢◌, ◌⊎◌, inl, inr, ap, ◌∙◌, arith, List, [], ◌∷◌, length, map, get_or}, lemmas.List.length-map}
use Rattle.linear_law.{specs.Names.{IsField, Among, Each, IsApart, IsAscending, ImageVector, IsImage, IsInKernel, KernelVector, ListsAll, LeadsAt, image_place, kernel_place, CountedWalk}, proofs.Names.{Congruent_refl, each_among, each_map, each_of_map, each_zip, same_or_not, apart_all, apart_short, image_pivot, kernel_leads, lead_pivot, counted_walk}}
use Rattle.simplicial_law.{specs.Names.{IsInOrder, IsSimplex, Precedes, IsCoboundary, IsCocycle, coboundary, IsCoboundaryPivot, IsCocyclePivot, IsCoboundaryByPlace, cochain_at, of_degree}, specs.ListedSimplices.simplices, proofs.Names.{listed_simplices_law, lists_compare, lists_strict, pivot_down, pivot_up, coboundary_down, coboundary_up, cocycle_down, cocycle_up, linear}}
use Rattle.certificate_law.specs.Names.{simplex_count}

among_through : {X Y Z : Type 0} (f : X → Y) (g : Y → Z) (y : Y) (z : Z) (xs : List X) → Among y (map f xs) → g y ≡ z → Among z (map (λ x. g (f x)) xs)
among_through f g y z [] m e = elim m [ ]
among_through f g y z (x ∷ xs) m e = elim m [ inl q ↦ inl (ap g q ∙ e) | inr k ↦ inr (among_through f g y z xs k e) ]

pub simplex_same_or_not : (s t : List ℕ) → (s ≡ t) ⊎ (s ≢ t)
simplex_same_or_not = same_or_not Precedes lists_compare lists_strict

among_places : {K X : Type 0} (place : K → ℕ) (at : ℕ → X) (count : ℕ) → ((j k : ℕ) → j < count → k < count → at j ≡ at k → j ≡ k) → (k : ℕ) → k < count → (ks : List K) → Each (λ k. place k < count) ks →
    Among (at k) (map (λ k. at (place k)) ks) → Among k (map place ks)
among_places place at count once k b [] inside m = m
among_places place at count once k b (j ∷ ks) inside m = elim m [ inl e ↦ inl (once (place j) k inside.0 b e) | inr n ↦ inr (among_places place at count once k b ks inside.1 n) ]

-- different places give different things
apart_places : {K X : Type 0} (place : K → ℕ) (at : ℕ → X) (count : ℕ) → ((j k : ℕ) → j < count → k < count → at j ≡ at k → j ≡ k) → (ks : List K) → Each (λ k. place k < count) ks →
    IsApart (map place ks) → IsApart (map (λ k. at (place k)) ks)
apart_places place at count once [] inside a = tt
apart_places place at count once (k ∷ ks) inside a = (λ m. a.0 (among_places place at count once (place k) inside.0 ks inside.1 m), apart_places place at count once ks inside.1 a.1)

pub ascending_apart : (ns : List ℕ) → IsAscending ns → IsApart ns
ascending_apart [] h = tt
ascending_apart (n ∷ ns) h = (λ m. (let l = each_among (λ (k : ℕ). n < k) n ns h.0 m in absurd (omega arith)), ascending_apart ns h.1)

-- lists of all pivots, each once; together they are as long as there are simplices
pub record PivotLists (facets : List (List ℕ)) (n p : ℕ) : Type 0 where
  pub cocycles : List (List ℕ)
  pub coboundaries : List (List ℕ)
  pub cocycle : (s : List ℕ) → IsCocyclePivot facets n p s → Among s cocycles
  pub coboundary : (s : List ℕ) → IsCoboundaryPivot facets (n + 1) p s → Among s coboundaries
  pub counted : length cocycles + length coboundaries ≡ simplex_count facets n
  pub cocycles_apart : IsApart cocycles
  pub coboundaries_apart : IsApart coboundaries
  pub cocycle_pivots : Each (IsCocyclePivot facets n p) cocycles
  pub coboundary_pivots : Each (IsCoboundaryPivot facets (n + 1) p) coboundaries

module _ (facets : List (List ℕ)) (n p : ℕ) (field : IsField p) (ascending : Each IsAscending facets) where
  here : List (List ℕ)
  here = of_degree n (simplices facets)

  above : List (List ℕ)
  above = of_degree (n + 1) (simplices facets)

  by_place : (ℕ → ℕ) → ℕ → ℕ
  by_place v j = coboundary p (cochain_at here v) (get_or above j [])

  all_here : ListsAll (IsSimplex facets n) here
  unfolding here
  all_here = listed_simplices_law.of_one_degree facets n ascending

  all_above : ListsAll (IsSimplex facets (n + 1)) above
  unfolding above
  all_above = listed_simplices_law.of_one_degree facets (n + 1) ascending

  here_ordered : IsInOrder here
  unfolding here
  here_ordered = listed_simplices_law.degree_in_order facets n

  above_ordered : IsInOrder above
  unfolding above
  above_ordered = listed_simplices_law.degree_in_order facets (n + 1)

  is_by_place : IsCoboundaryByPlace p here above by_place
  unfolding by_place
  is_by_place = record { same = λ v j b. Congruent_refl (coboundary p (cochain_at here v) (get_or above j [])) }

  walk : CountedWalk p (length here) (length above) by_place 0
  walk = counted_walk p (length here) (length above) field by_place (linear facets n p here all_here above all_above by_place is_by_place)

  pub pivot_lists : PivotLists facets n p
  unfolding here
  pivot_lists = record {
    cocycles = map (λ (k : KernelVector). get_or here k.place []) walk.kernel;
    coboundaries = map (λ (i : ImageVector ℕ). get_or above i.place []) walk.images;
    cocycle = λ s h.
        let d = pivot_down facets n p here all_here here_ordered {M = IsInKernel p (λ y. y < length above) by_place} {N = IsCocycle facets n p}
        (cocycle_up facets n p here all_here above all_above by_place is_by_place) (cocycle_down facets n p here all_here above all_above by_place is_by_place) s h in
        elim (walk.walked.kernel_whole d.3.vector d.3.member d.0 (omega arith) d.3.lead) [
          | inl m ↦ among_through kernel_place (λ x. get_or here x []) d.0 s walk.kernel m d.2
          | inr none ↦ elim none [ ]
        ];
    coboundary = λ s h.
        let d = pivot_down facets (n + 1) p above all_above above_ordered {M = IsImage p (λ y. y < length above) by_place} {N = IsCoboundary facets (n + 1) p}
        (coboundary_up facets n p here all_here above all_above by_place is_by_place) (coboundary_down facets n p here all_here above all_above by_place is_by_place) s h in
        among_through image_place (λ y. get_or above y []) d.0 s walk.images
        (image_pivot p (length here) (length above) field by_place (linear facets n p here all_here above all_above by_place is_by_place) (λ x. ⊥) walk.kernel walk.images walk.walked d.0 d.3) d.2;
    counted = let c = walk.counted in
        omega (arith, c, length-map walk.kernel (λ (k : KernelVector). get_or here k.place []), length-map walk.images (λ (i : ImageVector ℕ). get_or above i.place []));
    cocycles_apart =
        apart_places kernel_place (λ x. get_or here x []) (length here) (λ j k a b e. all_here.once j k [] a b e) walk.kernel (each_map (λ k (h : (0 ≤ k.place) × (k.place < length here)). h.1) walk.kernel walk.walked.kernel_places)
        (ascending_apart (map kernel_place walk.kernel) walk.walked.kernel_ascends);
    coboundaries_apart =
        apart_places image_place (λ y. get_or above y []) (length above) (λ j k a b e. all_above.once j k [] a b e) walk.images (each_map (λ i (h : LeadsAt p (length above) i.row i.place). h.on) walk.images walk.walked.image_leads)
        walk.walked.image_apart;
    cocycle_pivots =
        each_of_map (IsCocyclePivot facets n p) (λ (k : KernelVector). get_or here k.place []) walk.kernel
        (each_zip
        (λ k zero lead.
        pivot_up facets n p here all_here here_ordered {M = IsInKernel p (λ y. y < length above) by_place} {N = IsCocycle facets n p}
        (cocycle_up facets n p here all_here above all_above by_place is_by_place) (cocycle_down facets n p here all_here above all_above by_place is_by_place) k.place
        (record { vector = k.vector; member = zero; lead = lead }))
        walk.kernel walk.walked.kernel_zero
        (kernel_leads p (length here) (length above) field by_place (linear facets n p here all_here above all_above by_place is_by_place) (λ x. ⊥) walk.kernel walk.images walk.walked));
    coboundary_pivots =
        each_of_map (IsCoboundaryPivot facets (n + 1) p) (λ (i : ImageVector ℕ). get_or above i.place []) walk.images
        (each_map
        (λ i h.
        pivot_up facets (n + 1) p above all_above above_ordered {M = IsImage p (λ y. y < length above) by_place} {N = IsCoboundary facets (n + 1) p}
        (coboundary_up facets n p here all_here above all_above by_place is_by_place) (coboundary_down facets n p here all_here above all_above by_place is_by_place) i.place h)
        walk.images
        (lead_pivot p (length here) (length above) field by_place (linear facets n p here all_here above all_above by_place is_by_place) (λ x. ⊥) walk.kernel walk.images walk.walked));
  }

  -- Pivots that differ, and are as many as there are simplices, are all pivots.
  module _ (zs bs : List (List ℕ)) (zs_apart : IsApart zs) (bs_apart : IsApart bs)
      (zs_pivots : Each (IsCocyclePivot facets n p) zs) (bs_pivots : Each (IsCoboundaryPivot facets (n + 1) p) bs)
      (counted : simplex_count facets n ≤ length zs + length bs) where
    lists : PivotLists facets n p
    lists = pivot_lists

    zs_among : Each (λ s. Among s lists.cocycles) zs
    zs_among = each_map lists.cocycle zs zs_pivots

    bs_among : Each (λ s. Among s lists.coboundaries) bs
    bs_among = each_map lists.coboundary bs bs_pivots

    pub all_cocycle_pivots : (s : List ℕ) → IsCocyclePivot facets n p s → Among s zs
    all_cocycle_pivots s h =
        apart_all simplex_same_or_not zs lists.cocycles zs_apart zs_among
        (let c = lists.counted in let b = apart_short simplex_same_or_not bs lists.coboundaries bs_apart bs_among in omega (arith, c, b, counted)) s (lists.cocycle s h)

    pub all_coboundary_pivots : (s : List ℕ) → IsCoboundaryPivot facets (n + 1) p s → Among s bs
    all_coboundary_pivots s h =
        apart_all simplex_same_or_not bs lists.coboundaries bs_apart bs_among
        (let c = lists.counted in let z = apart_short simplex_same_or_not zs lists.cocycles zs_apart zs_among in omega (arith, c, z, counted)) s (lists.coboundary s h)
