-- The vectors that a walk of the rows of relative cochains keeps are the canonical relative classes, and a basis
-- of relative cohomology.
use Rattle.std.proofs.Common.{◌≡◌, ℕ, ◌+◌, ◌*◌, ◌-◌, ◌<◌, ◌≤◌, ◌⊎◌, List, [], ◌∷◌, map, length, get_or, sym, ap, ap₂, subst, ◌∙◌, inl, inr}
use Rattle.std.specs.List.{AllZip}
use Rattle.std.proofs.Math.ListN.{length-map}
use Rattle.std.proofs.lemmas.Simd.{map-map}
use Rattle.linear_law.specs.Names.{Congruent, IsField, negated, Among, Each, IsAscending, AgreesOn, IsSubspace, combination, expansion, ImageVector, IsImage, IsInKernel, IsLinear, KernelVector, ListsAll, row_combination, IsCanonical, IsPivot, LeadsAt, Skips, Walked, image_place, kernel_place}
use Rattle.linear_law.proofs.Names.{each_alike, each_right, length_alike, zip_each, zip_left, zip_right, Congruent_add, Congruent_of, Congruent_refl, Congruent_scale, Congruent_sym, Congruent_trans, among_map, each_among, each_map, each_of_map, each_zip, not_zero, coordinates, coordinates_count, coordinates_only, coordinates_rest, coordinates_small, found, classes_span, image_pivot, kernel_canonical, kernel_fresh, kernel_leads, kernel_pivot, kernel_space, lead_pivot, primitive_vanishes}
use Rattle.simplicial_law.specs.Names.{IsInOrder, IsSimplex, AgreesOnSimplices, Chain, Cochain, coboundary, AreTerms, cochain_of, IsRowOf, cochain_at, terms_of}
use Rattle.simplicial_law.proofs.Names.{no_bounds, agree_by_place, canonical_up, cochain_at-value, ordered_places, pivot_down, pivot_up, simplex_at, value_by_place}
use Rattle.relative_law.proofs.RelativeDegrees.{IsOff, IsOuterByPlace, coboundary_down, coboundary_up, cocycle_down, cocycle_up, linear, off_up, outer_itself, rows_by_place}
use Rattle.relative_law.proofs.Spaces.{bound_relative, forget_bound, relative_close, relative_coboundaries, relative_cocycles}
use Rattle.relative_law.specs.Names.{RelativeBasisLaw, IsRelativeBasis, IsRelativeCoboundary, IsRelativeCocycle, IsSubcomplex, IsCanonicalRelativeBasis, IsCanonicalRelativeClass, IsCanonicalRelativeCoboundary, IsCanonicalRelativePrimitive, IsRelativeCoboundaryPivot, IsRelativeCocyclePivot, AreRelativeBoundPlaces, AreSkippedPlaces}

-- ---- cochains that agree

canonical_alike : (facets sub : List (List ℕ)) (n p : ℕ) → 1 < p → IsSubcomplex sub facets → (s : List ℕ) (z w : Cochain) → AgreesOnSimplices facets n p w z → IsCanonicalRelativeClass facets sub n p s z → IsCanonicalRelativeClass facets sub n p s w
canonical_alike facets sub n p large pair s z w same h = record {
  canonical = record {
    pivot = h.canonical.pivot;
    member = (relative_cocycles facets sub n p large pair).alike w z same h.canonical.member;
    one = Congruent_trans (same.at s h.canonical.pivot.lead.on) h.canonical.one;
    others = λ t q m. Congruent_trans (same.at t q.lead.on) (h.canonical.others t q m);
  };
  no_bound = h.no_bound;
}

-- a pivot of the relative coboundaries is no simplex of the subcomplex
pub pivot_outside : (facets sub : List (List ℕ)) (n p : ℕ) → IsSubcomplex sub facets → (s : List ℕ) → IsRelativeCoboundaryPivot facets sub n p s → IsSimplex sub n s → ⊥
pivot_outside facets sub n p pair s h on = not_zero p (h.vector s) h.lead.nonzero ((bound_relative facets sub n p h.vector pair h.member).at s on)

-- ---- the pivots of the relative coboundaries one degree up

module _ (facets sub : List (List ℕ)) (n p : ℕ) (field : IsField p) (pair : IsSubcomplex sub facets)
    (here : List (List ℕ)) (all_here : ListsAll (IsSimplex facets n) here)
    (above : List (List ℕ)) (all_above : ListsAll (IsSimplex facets (n + 1)) above) (above_ordered : IsInOrder above)
    (L : (ℕ → ℕ) → ℕ → ℕ) (is_outer : IsOuterByPlace p sub here above L)
    (skipped : ℕ → Type 0) (kernel : List KernelVector) (images : List (ImageVector ℕ)) (state : Walked p (length here) (length above) L skipped 0 kernel images) where
  image_at : (x : ℕ) → Among x (map image_place images) → IsPivot p (λ y. y < length above) (λ a b. a < b) (IsImage p (λ y. y < length above) L) x
  image_at x m =
      elim (found image_place x images) [
        | inr none ↦ absurd (none m)
        | inl f ↦ subst (λ y. IsPivot p (λ y. y < length above) (λ a b. a < b) (IsImage p (λ y. y < length above) L) y) f.2
            (each_among (λ (i : ImageVector ℕ). IsPivot p (λ y. y < length above) (λ a b. a < b) (IsImage p (λ y. y < length above) L) i.place) f.0 images
            (lead_pivot p (length here) (length above) field L (linear facets sub n p pair here all_here above all_above L is_outer) skipped kernel images state) f.1)
      ]

  pub bound_places : AreRelativeBoundPlaces facets sub (n + 1) p above (λ x. Among x (map image_place images))
  bound_places =
      let up = coboundary_up facets sub n p pair here all_here above all_above L is_outer in
      let down = coboundary_down facets sub n p pair here all_here above all_above L is_outer in
      record {
        inside = λ x m. (image_at x m).lead.on;
        sound = λ x m. pivot_up facets (n + 1) p above all_above above_ordered up down x (image_at x m);
        whole = λ x b h.
            let d = pivot_down facets (n + 1) p above all_above above_ordered up down (get_or above x []) h in
            subst (λ y. Among y (map image_place images)) (all_above.once d.0 x [] d.1 b d.2)
            (image_pivot p (length here) (length above) field L (linear facets sub n p pair here all_here above all_above L is_outer) skipped kernel images state d.0 d.3);
        decide = λ x. elim (found image_place x images) [ inl f ↦ inl (among_map image_place f.0 x images f.1 f.2) | inr none ↦ inr none ];
      }

-- ---- spaces of cochains, by places

module _ (facets : List (List ℕ)) (n p : ℕ) (here : List (List ℕ)) (all_here : ListsAll (IsSimplex facets n) here) {N : Cochain → Type 0} (space : IsSubspace p (IsSimplex facets n) N) where
  member_by_place : (v : ℕ → ℕ) (f : Cochain) → ((x : ℕ) → x < length here → Congruent p (v x) (f (get_or here x []))) → N f → N (cochain_at here v)
  member_by_place v f h =
      space.alike (cochain_at here v) f (agree_by_place facets n p here all_here (cochain_at here v) f (λ x c. Congruent_trans (Congruent_of (cochain_at-value facets n p here all_here v x c)) (h x c)))

  member_down : (f : Cochain) → N f → N (cochain_at here (λ x. f (get_or here x [])))
  member_down f = member_by_place (λ x. f (get_or here x [])) f (λ x c. Congruent_refl (f (get_or here x [])))

  space_by_place : IsSubspace p (λ x. x < length here) (λ v. N (cochain_at here v))
  space_by_place =
      let value = cochain_at-value facets n p here all_here in
      record {
        zero_in = member_by_place (λ x. 0) (λ s. 0) (λ x c. Congruent_refl 0) space.zero_in;
        plus = λ k v w hv hw. member_by_place (λ x. v x + k * w x) (λ s. cochain_at here v s + k * cochain_at here w s)
            (λ x c. Congruent_of (sym (ap₂ (λ a b. a + k * b) (value v x c) (value w x c)))) (space.plus k (cochain_at here v) (cochain_at here w) hv hw);
        alike = λ v w same. member_by_place v (cochain_at here w) (λ x c. Congruent_trans (same.at x c) (Congruent_of (sym (value w x c))));
      }

abbrev pub IsBoundByPlace : List (List ℕ) → List (List ℕ) → ℕ → ℕ → List (List ℕ) → (ℕ → ℕ) → Type 0
IsBoundByPlace facets sub n p here v = IsRelativeCoboundary facets sub n p (cochain_at here v)

module _ (facets sub : List (List ℕ)) (n p : ℕ) (large : 1 < p) (pair : IsSubcomplex sub facets) (here : List (List ℕ)) (all_here : ListsAll (IsSimplex facets n) here) where
  pub bounds_by_place : IsSubspace p (λ x. x < length here) (IsBoundByPlace facets sub n p here)
  bounds_by_place = space_by_place facets n p here all_here (relative_coboundaries facets sub n p large pair)

  pub bound_down : (f : Cochain) → IsRelativeCoboundary facets sub n p f → IsBoundByPlace facets sub n p here (λ x. f (get_or here x []))
  bound_down = member_down facets n p here all_here (relative_coboundaries facets sub n p large pair)

-- ---- the relative cocycles of one degree

module _ (facets sub : List (List ℕ)) (n p : ℕ) (field : IsField p) (pair : IsSubcomplex sub facets)
    (here : List (List ℕ)) (all_here : ListsAll (IsSimplex facets n) here) (here_ordered : IsInOrder here)
    (above : List (List ℕ)) (all_above : ListsAll (IsSimplex facets (n + 1)) above)
    (L : (ℕ → ℕ) → ℕ → ℕ) (is_outer : IsOuterByPlace p sub here above L)
    (skipped : ℕ → Type 0) (places : AreSkippedPlaces facets sub n p here skipped)
    (kernel : List KernelVector) (images : List (ImageVector ℕ)) (state : Walked p (length here) (length above) L skipped 0 kernel images) where
  linear_here : IsLinear p (length here) (λ y. y < length above) L
  linear_here = linear facets sub n p pair here all_here above all_above L is_outer

  -- the relative cocycles, by places: they are in the kernel, and 0 at the places of the subcomplex
  abbrev IsClosed : (ℕ → ℕ) → Type 0
  IsClosed v = IsRelativeCocycle facets sub n p (cochain_at here v)

  closed_down : (f : Cochain) → IsRelativeCocycle facets sub n p f → IsClosed (λ x. f (get_or here x []))
  closed_down = member_down facets n p here all_here (relative_cocycles facets sub n p field.large pair)

  closed_zero : (v : ℕ → ℕ) → IsClosed v → IsInKernel p (λ y. y < length above) L v
  closed_zero v h = (kernel_space p (length here) (length above) field L linear_here skipped kernel images state).alike v (λ x. cochain_at here v (get_or here x []))
      (record { at = λ x b. Congruent_of (sym (cochain_at-value facets n p here all_here v x b)) }) (cocycle_down facets sub n p pair here all_here above all_above L is_outer (cochain_at here v) h)

  closed_off : (v : ℕ → ℕ) → IsClosed v → IsOff sub n p here v
  closed_off v h = record { at = λ x b on. Congruent_trans (Congruent_of (sym (cochain_at-value facets n p here all_here v x b))) (h.relative.at (get_or here x []) on) }

  -- the vectors of the kernel are 0 at the places of the subcomplex
  kernel_off : (k : KernelVector) → Skips p skipped k.vector → IsOff sub n p here k.vector
  kernel_off k s = record { at = λ x b on. s.at x (places.covers x b on) }

  pivot_here : (x : ℕ) → IsPivot p (λ x. x < length here) (λ a b. a < b) IsClosed x → IsPivot p (λ x. x < length here) (λ a b. a < b) (IsInKernel p (λ y. y < length above) L) x
  pivot_here x h = record { vector = h.vector; member = closed_zero h.vector h.member; lead = h.lead }

  canonical_here : Each (λ k. IsCanonical p (λ x. x < length here) (λ a b. a < b) IsClosed k.place k.vector) kernel
  canonical_here =
      each_zip {P = λ k. IsCanonical p (λ x. x < length here) (λ a b. a < b) (IsInKernel p (λ y. y < length above) L) k.place k.vector} {Q = λ k. LeadsAt p (length here) k.vector k.place × Skips p skipped k.vector}
      {S = λ k. IsCanonical p (λ x. x < length here) (λ a b. a < b) IsClosed k.place k.vector}
      (λ k c (m : LeadsAt p (length here) k.vector k.place × Skips p skipped k.vector).
      let member : IsClosed k.vector = cocycle_up facets sub n p pair here all_here above all_above L is_outer k.vector c.member (kernel_off k m.1) in
      record { pivot = record { vector = k.vector; member = member; lead = m.0 }; member = member; one = c.one; others = λ y q n. c.others y (pivot_here y q) n })
      kernel (kernel_canonical p (length here) (length above) field L linear_here skipped kernel images state)
      (each_zip (λ k a b. (a, b)) kernel (kernel_leads p (length here) (length above) field L linear_here skipped kernel images state) state.kernel_skips)

  abbrev pub simplex_of : KernelVector → List ℕ
  simplex_of k = get_or here k.place []

  pub class_at : Each (λ k. IsCanonicalRelativeClass facets sub n p (simplex_of k) (cochain_at here k.vector)) kernel
  class_at =
      each_zip
      (λ k (c : IsCanonical p (λ x. x < length here) (λ a b. a < b) IsClosed k.place k.vector) fresh. record {
        canonical = canonical_up facets n p here all_here here_ordered {M = IsClosed} (λ v h. h) closed_down k.place k.vector c;
        no_bound = λ h. fresh (places.whole k.place c.pivot.lead.on h);
      })
      kernel canonical_here (kernel_fresh p (length here) (length above) field L linear_here skipped kernel images state)

  pub all_classes : (s : List ℕ) → IsRelativeCocyclePivot facets sub n p s → (IsRelativeCoboundaryPivot facets sub n p s → ⊥) → Among s (map simplex_of kernel)
  all_classes s h none =
      let d = pivot_down facets n p here all_here here_ordered {M = IsClosed} (λ v h. h) closed_down s h in
      elim (kernel_pivot p (length here) (length above) field L linear_here skipped kernel images state d.0 (pivot_here d.0 d.3)) [
        | inr b ↦ elim (places.sound d.0 b) [
          | inl q ↦ absurd (none (subst (IsRelativeCoboundaryPivot facets sub n p) d.2 q))
          | inr on ↦ absurd (not_zero p (d.3.vector d.0) d.3.lead.nonzero ((closed_off d.3.vector d.3.member).at d.0 d.1 on))
        ]
        | inl a ↦ elim (found kernel_place d.0 kernel) [
          | inr away ↦ absurd (away a)
          | inl f ↦ among_map simplex_of f.0 s kernel f.1 (ap (λ x. get_or here x []) f.2 ∙ d.2)
        ]
      ]

  bounds_close_here : (w : ℕ → ℕ) → IsBoundByPlace facets sub n p here w → IsClosed w
  bounds_close_here w = relative_close facets sub n p field.large pair (cochain_at here w)

  closed_space : IsSubspace p (λ x. x < length here) IsClosed
  closed_space = space_by_place facets n p here all_here (relative_cocycles facets sub n p field.large pair)

  -- the skipped places outside the subcomplex are those of the pivots of the relative coboundaries
  record IsBound (x : ℕ) : Type 0 where
    skipped_there : skipped x
    pivot : IsRelativeCoboundaryPivot facets sub n p (get_or here x [])

  bound_or_not : (x : ℕ) → IsBound x ⊎ (IsBound x → ⊥)
  bound_or_not x = elim (places.decide x) [
    | inr n ↦ inr (λ h. n h.skipped_there)
    | inl s ↦ elim (places.sound x s) [
      | inl q ↦ inl (record { skipped_there = s; pivot = q })
      | inr on ↦ inr (λ h. pivot_outside facets sub n p pair (get_or here x []) h.pivot on)
    ]
  ]

  bound_inside : (x : ℕ) → IsBound x → x < length here
  bound_inside x h = places.inside x h.skipped_there

  bounds_pivot : (x : ℕ) → IsBound x → IsPivot p (λ x. x < length here) (λ a b. a < b) (IsBoundByPlace facets sub n p here) x
  bounds_pivot x is =
      let d = pivot_down facets n p here all_here here_ordered {M = IsBoundByPlace facets sub n p here} (λ v h. h) (bound_down facets sub n p field.large pair here all_here) (get_or here x []) is.pivot in
      subst (λ y. IsPivot p (λ x. x < length here) (λ a b. a < b) (IsBoundByPlace facets sub n p here) y) (all_here.once d.0 x [] d.1 (bound_inside x is) d.2) d.3

  bounds_whole : (x : ℕ) → IsPivot p (λ x. x < length here) (λ a b. a < b) (IsBoundByPlace facets sub n p here) x → IsBound x
  bounds_whole x h =
      let q = pivot_up facets n p here all_here here_ordered {M = IsBoundByPlace facets sub n p here} (λ v h. h) (bound_down facets sub n p field.large pair here all_here) x h in
      record { skipped_there = places.whole x h.lead.on q; pivot = q }

  inside_here : Each (λ (k : KernelVector). k.place < length here) kernel
  inside_here = each_map (λ k (h : (0 ≤ k.place) × (k.place < length here)). h.1) kernel state.kernel_places

  skips_here : Each (λ k. Skips p IsBound k.vector) kernel
  skips_here = each_map (λ k (h : Skips p skipped k.vector). record { at = λ x b. h.at x b.skipped_there }) kernel state.kernel_skips

  spans_here : (w : ℕ → ℕ) → IsClosed w → Skips p IsBound w → AgreesOn p (λ x. x < length here) w (expansion kernel_place (λ (k : KernelVector). k.vector) kernel w)
  spans_here w h s =
      classes_span p (length here) (length above) field L linear_here skipped kernel images state w (closed_zero w h)
      (record { at = λ x b. elim (places.sound x b) [ inl q ↦ s.at x (record { skipped_there = b; pivot = q }) | inr on ↦ (closed_off w h).at x (places.inside x b) on ] })

  coordinates_here : (ℕ → ℕ) → List ℕ
  coordinates_here =
      coordinates p (length here) field (bounds_by_place facets sub n p field.large pair here all_here) IsBound bound_or_not bound_inside bounds_pivot bounds_whole closed_space bounds_close_here kernel inside_here state.kernel_reduced skips_here spans_here

  -- ---- the printed classes

  abbrev pub Has : KernelVector → Chain → Type 0
  Has k c = AgreesOnSimplices facets n p (cochain_of c) (cochain_at here k.vector)

  combination_by_place : (cs : List ℕ) (ks : List KernelVector) (classes : List Chain) → AllZip Has ks classes → (x : ℕ) → x < length here
      → Congruent p (combination cs (map cochain_of classes) (get_or here x [])) (combination cs (map (λ (k : KernelVector). k.vector) ks) x)
  combination_by_place [] ks classes h x b = Congruent_refl 0
  combination_by_place (c ∷ cs) [] [] h x b = Congruent_refl 0
  combination_by_place (c ∷ cs) [] (t ∷ ts) h x b = elim h [ ]
  combination_by_place (c ∷ cs) (k ∷ ks) [] h x b = elim h [ ]
  combination_by_place (c ∷ cs) (k ∷ ks) (t ∷ ts) h x b =
      Congruent_add (Congruent_scale c (Congruent_trans (h.0.at (get_or here x []) (simplex_at facets n p here all_here x b)) (Congruent_of (cochain_at-value facets n p here all_here k.vector x b))))
      (combination_by_place cs ks ts h.1 x b)

  module _ (classes : List Chain) (have : AllZip Has kernel classes) where
    size : length (map cochain_of classes) ≡ length kernel
    size = length-map classes cochain_of ∙ length_alike Has kernel classes have

    by_place : (z : Cochain) (cs : List ℕ) (x : ℕ) → x < length here
        → Congruent p (z (get_or here x []) + negated p (combination cs (map cochain_of classes) (get_or here x []))) (z (get_or here x []) + (p - 1) * combination cs (map (λ (k : KernelVector). k.vector) kernel) x)
    by_place z cs x b = Congruent_add (Congruent_refl (z (get_or here x []))) (Congruent_scale (p - 1) (combination_by_place cs kernel classes have x b))

    rest_down : (z : Cochain) (cs : List ℕ) → IsRelativeCoboundary facets sub n p (λ s. z s + negated p (combination cs (map cochain_of classes) s))
        → IsBoundByPlace facets sub n p here (λ x. z (get_or here x []) + (p - 1) * combination cs (map (λ (k : KernelVector). k.vector) kernel) x)
    rest_down z cs h =
        member_by_place facets n p here all_here (relative_coboundaries facets sub n p field.large pair) (λ x. z (get_or here x []) + (p - 1) * combination cs (map (λ (k : KernelVector). k.vector) kernel) x) (λ s. z s + negated p (combination cs (map cochain_of classes) s))
        (λ x b. Congruent_sym (by_place z cs x b)) h

    rest_up : (z : Cochain) (cs : List ℕ) → IsBoundByPlace facets sub n p here (λ x. z (get_or here x []) + (p - 1) * combination cs (map (λ (k : KernelVector). k.vector) kernel) x)
        → IsRelativeCoboundary facets sub n p (λ s. z s + negated p (combination cs (map cochain_of classes) s))
    rest_up z cs h =
        let w : ℕ → ℕ = λ x. z (get_or here x []) + (p - 1) * combination cs (map (λ (k : KernelVector). k.vector) kernel) x in
        (relative_coboundaries facets sub n p field.large pair).alike (λ s. z s + negated p (combination cs (map cochain_of classes) s)) (cochain_at here w)
        (agree_by_place facets n p here all_here (λ s. z s + negated p (combination cs (map cochain_of classes) s)) (cochain_at here w)
        (λ x b. Congruent_trans (by_place z cs x b) (Congruent_of (sym (cochain_at-value facets n p here all_here w x b)))))
        h

    pub basis : IsRelativeBasis facets sub n p (map cochain_of classes)
    unfolding coordinates_here
    basis = record {
      cocycles = each_of_map (IsRelativeCocycle facets sub n p) cochain_of classes
          (each_alike Has (λ k. IsCanonicalRelativeClass facets sub n p (simplex_of k) (cochain_at here k.vector)) (λ c. IsRelativeCocycle facets sub n p (cochain_of c))
          (λ k c same h. (relative_cocycles facets sub n p field.large pair).alike (cochain_of c) (cochain_at here k.vector) same h.canonical.member) kernel classes have class_at);
      coordinates = λ z h.
          let v : ℕ → ℕ = λ x. z (get_or here x []) in (
            coordinates_here v,
            record {
              count = coordinates_count p (length here) field (bounds_by_place facets sub n p field.large pair here all_here) IsBound bound_or_not bound_inside bounds_pivot bounds_whole closed_space bounds_close_here kernel inside_here state.kernel_reduced skips_here spans_here v ∙ sym size;
              small = coordinates_small p (length here) field (bounds_by_place facets sub n p field.large pair here all_here) IsBound bound_or_not bound_inside bounds_pivot bounds_whole closed_space bounds_close_here kernel inside_here state.kernel_reduced skips_here spans_here v;
              rest = rest_up z (coordinates_here v)
                  (coordinates_rest p (length here) field (bounds_by_place facets sub n p field.large pair here all_here) IsBound bound_or_not bound_inside bounds_pivot bounds_whole closed_space bounds_close_here kernel inside_here state.kernel_reduced skips_here spans_here v (closed_down z h));
            },
          );
      only = λ z cs ds h a b.
          coordinates_only p (length here) field (bounds_by_place facets sub n p field.large pair here all_here) IsBound bound_or_not bound_inside bounds_pivot bounds_whole closed_space bounds_close_here kernel inside_here state.kernel_reduced skips_here spans_here
          (λ x. z (get_or here x [])) cs ds (a.count ∙ size) (b.count ∙ size) a.small b.small (rest_down z cs a.rest) (rest_down z ds b.rest);
    }

  -- ---- the rows of the vectors

  terms_here : (row : List (ℕ × ℕ)) → IsAscending (map (λ e. e.0) row) → Each (λ e. e.0 < length here) row → Each (λ e. (0 < e.1) × (e.1 < p)) row → AreTerms facets n p (terms_of here row)
  terms_here row a b c = record {
    coefficients = each_of_map (λ (t : ℕ × List ℕ). (0 < t.0) × (t.0 < p)) (λ (e : ℕ × ℕ). (e.1, get_or here e.0 [])) row c;
    simplices = each_of_map (λ (t : ℕ × List ℕ). IsSimplex facets n t.1) (λ (e : ℕ × ℕ). (e.1, get_or here e.0 [])) row (each_map (λ e d. simplex_at facets n p here all_here e.0 d) row b);
    in_order = subst IsInOrder (sym (map-map (λ (t : ℕ × List ℕ). t.1) (λ (e : ℕ × ℕ). (e.1, get_or here e.0 [])) row)) (ordered_places here here_ordered (λ (e : ℕ × ℕ). e.0) row a b);
  }

  abbrev Class : KernelVector → Chain → Type 0
  Class k c = IsCanonicalRelativeClass facets sub n p (simplex_of k) (cochain_of c)

  pub canonical_basis : (rows : List (List (ℕ × ℕ))) → AllZip (IsRowOf p (length here)) kernel rows → IsCanonicalRelativeBasis facets sub n p (map (terms_of here) rows)
  canonical_basis rows are =
      let have : AllZip Has kernel (map (terms_of here) rows) =
      zip_right (IsRowOf p (length here)) Has (terms_of here)
      (λ k row (r : IsRowOf p (length here) k row). agree_by_place facets n p here all_here (cochain_of (terms_of here row)) (cochain_at here k.vector)
      (λ x b. Congruent_trans (Congruent_of (value_by_place facets n p here all_here row x b)) (Congruent_trans (r.same x b) (Congruent_of (sym (cochain_at-value facets n p here all_here k.vector x b))))))
      kernel rows are in
      record {
        canonical = record {
          pivots = map simplex_of kernel;
          in_order = ordered_places here here_ordered kernel_place kernel state.kernel_ascends inside_here;
          all = all_classes;
          canonical = zip_left Class (λ s terms. IsCanonicalRelativeClass facets sub n p s (cochain_of terms)) simplex_of (λ k c h. h) kernel (map (terms_of here) rows)
              (zip_each (λ k. IsCanonicalRelativeClass facets sub n p (simplex_of k) (cochain_at here k.vector)) Has Class
              (λ k c h same. canonical_alike facets sub n p field.large pair (simplex_of k) (cochain_at here k.vector) (cochain_of c) same h) kernel (map (terms_of here) rows) class_at have);
          terms = each_of_map (AreTerms facets n p) (terms_of here) rows
              (each_right (IsRowOf p (length here)) (λ row. AreTerms facets n p (terms_of here row)) (λ k row r. terms_here row r.ascends r.inside r.values) kernel rows are);
        };
        basis = basis (map (terms_of here) rows) have;
      }

-- ---- relative coboundaries and their primitives

module _ (facets sub : List (List ℕ)) (n p : ℕ) (field : IsField p) (pair : IsSubcomplex sub facets)
    (here : List (List ℕ)) (all_here : ListsAll (IsSimplex facets n) here) (here_ordered : IsInOrder here)
    (above : List (List ℕ)) (all_above : ListsAll (IsSimplex facets (n + 1)) above) (above_ordered : IsInOrder above)
    (L : (ℕ → ℕ) → ℕ → ℕ) (is_outer : IsOuterByPlace p sub here above L)
    (skipped : ℕ → Type 0) (places : AreSkippedPlaces facets sub n p here skipped)
    (kernel : List KernelVector) (images : List (ImageVector ℕ)) (state : Walked p (length here) (length above) L skipped 0 kernel images) where
  pub canonical_bound : (y : ℕ) (row : ℕ → ℕ) → IsCanonical p (λ y. y < length above) (λ a b. a < b) (IsImage p (λ y. y < length above) L) y row
      → IsCanonicalRelativeCoboundary facets sub (n + 1) p (get_or above y []) (cochain_at above row)
  canonical_bound =
      canonical_up facets (n + 1) p above all_above above_ordered (coboundary_up facets sub n p pair here all_here above all_above L is_outer)
      (coboundary_down facets sub n p pair here all_here above all_above L is_outer)

  pub canonical_primitive : (row from : ℕ → ℕ) → AgreesOn p (λ y. y < length above) (L from) row → Each (λ k. Congruent p (from k.place) 0) kernel → Skips p skipped from
      → IsCanonicalRelativePrimitive facets sub n p (cochain_at above row) (cochain_at here from)
  canonical_primitive row from goes apart skips =
      let off : IsOff sub n p here from = record { at = λ x b on. skips.at x (places.covers x b on) } in
      let relative = off_up facets sub n p pair here all_here from off in
      record {
        same = agree_by_place facets (n + 1) p above all_above (cochain_at above row) (coboundary p (cochain_at here from))
            (λ j b.
            Congruent_trans (Congruent_of (cochain_at-value facets (n + 1) p above all_above row j b))
            (Congruent_trans (Congruent_sym (goes.at j b))
            (Congruent_trans (is_outer.same from j b)
            ((outer_itself facets sub n p (cochain_at here from) relative).at (get_or above j []) (simplex_at facets (n + 1) p above all_above j b)))));
        relative = relative;
        vanishes = λ s q.
            let d = pivot_down facets n p here all_here here_ordered {M = λ v. IsRelativeCocycle facets sub n p (cochain_at here v)} (λ v h. h) (member_down facets n p here all_here (relative_cocycles facets sub n p field.large pair)) s q in
            let P : List ℕ → Type 0 = λ t. Congruent p (cochain_at here from t) 0 in
            subst P d.2
            (Congruent_trans (Congruent_of (cochain_at-value facets n p here all_here from d.0 d.1))
            (primitive_vanishes p (length here) (length above) field L (linear facets sub n p pair here all_here above all_above L is_outer) skipped kernel images state from apart skips d.0
            (pivot_here facets sub n p field pair here all_here here_ordered above all_above L is_outer skipped places kernel images state d.0 d.3)));
      }

pub relative_basis_law : RelativeBasisLaw
relative_basis_law = record {
  vertices = λ facets sub p s h. no_bounds facets p s (record { vector = h.vector; member = forget_bound facets sub 0 p h.vector h.member; lead = h.lead });
  bounds = λ facets sub n p here above field pair all_here all_above ordered rows are skipped kernel images state.
      bound_places facets sub n p field pair here all_here above all_above ordered (row_combination rows) (rows_by_place p sub above here rows are) (λ x. Among x skipped) kernel images state;
  classes = λ facets sub n p here above field pair all_here all_above ordered rows are skipped places kernel images state vectors are_rows.
      canonical_basis facets sub n p field pair here all_here ordered above all_above (row_combination rows) (rows_by_place p sub above here rows are) (λ x. Among x skipped) places kernel images state vectors are_rows;
  primitives = λ facets sub n p here above field pair all_here all_above here_ordered above_ordered rows are skipped places kernel images state y row from canonical goes apart skips.
      let outer = rows_by_place p sub above here rows are in (
        canonical_bound facets sub n p field pair here all_here here_ordered above all_above above_ordered (row_combination rows) outer (λ x. Among x skipped) places kernel images state y row canonical,
        canonical_primitive facets sub n p field pair here all_here here_ordered above all_above above_ordered (row_combination rows) outer (λ x. Among x skipped) places kernel images state row from goes apart skips,
      );
}
