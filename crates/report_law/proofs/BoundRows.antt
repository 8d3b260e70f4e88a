-- The coboundaries of one degree have reduced rows, in every complex.
use Rattle.std.proofs.Common.{◌≡◌, ℕ, zero, suc, ◌+◌, ◌<◌, inl, inr, List, [], ◌∷◌, map, length, get_or, arith, sym, ap, subst, ◌∙◌}
use Rattle.linear_law.{specs.Names.{Congruent, IsField, IsImage, IsLinear, ListsAll, Among, Each, IsAscending, IsReduced, IsReducedBasis, CountedWalk, HasReducedBasis, PlacedVector, image_place, place_of}, proofs.Names.{Congruent_refl, each_of_map, each_zip, unit_sum-spans, image_basis, image_pivot, counted_walk}}
use Rattle.simplicial_law.{specs.Names.{IsInOrder, IsSimplex, Cochain, IsCoboundary, coboundary, unit_cochain, IsCoboundaryPivot, of_degree, IsCoboundaryByPlace, cochain_at}, specs.ListedSimplices.simplices, proofs.Names.{no_bounds, listed_simplices_law, lead_up, pivot_down, unit_away, unit_here, coboundary_down, coboundary_up, linear}}

-- a simplex and a cochain
abbrev pub Row : Type 0
Row = List ℕ × Cochain

abbrev pub lead : Row → List ℕ
lead r = r.0

abbrev pub value : Row → Cochain
value r = r.1

-- coboundaries, one for each pivot, each 1 at its own and 0 at the others
pub record BoundRows (facets : List (List ℕ)) (n p : ℕ) : Type 0 where
  pub rows : List Row
  pub members : Each (λ r. IsCoboundary facets n p (value r)) rows
  pub pivots : Each (λ r. IsCoboundaryPivot facets n p (lead r)) rows
  pub reduced : IsReduced p lead value rows
  pub all : (s : List ℕ) → IsCoboundaryPivot facets n p s → Among s (map lead rows)

reduced-map : {R : Type 0} (p : ℕ) (f : R → Row) (rs : List R) → IsReduced p (λ r. lead (f r)) (λ r. value (f r)) rs → IsReduced p lead value (map f rs)
reduced-map p f [] h = tt
reduced-map p f (r ∷ rs) h = (
  h.0,
  each_of_map (λ (s : Row). Congruent p (value (f r) (lead s)) 0 × Congruent p (value s (lead (f r))) 0) f rs h.1,
  reduced-map p f rs h.2,
)

module _ (facets : List (List ℕ)) (n p : ℕ) (field : IsField p) (here above : List (List ℕ)) (all_here : ListsAll (IsSimplex facets n) here) (all_above : ListsAll (IsSimplex facets (n + 1)) above) (above_ordered : IsInOrder above) where
  -- the coboundary by places
  L : (ℕ → ℕ) → ℕ → ℕ
  L v j = coboundary p (cochain_at here v) (get_or above j [])

  by_place : IsCoboundaryByPlace p here above L
  unfolding L
  by_place = record { same = λ v j b. Congruent_refl (coboundary p (cochain_at here v) (get_or above j [])) }

  is_linear : IsLinear p (length here) (λ y. y < length above) L
  is_linear = linear facets n p here all_here above all_above L by_place

  walk : CountedWalk p (length here) (length above) L 0
  walk = counted_walk p (length here) (length above) field L is_linear

  bounds : HasReducedBasis p (length above) (IsImage p (λ y. y < length above) L) (map image_place walk.images)
  bounds = image_basis p (length here) (length above) field L is_linear (λ x. ⊥) walk.kernel walk.images walk.walked

  abbrev row : PlacedVector → Row
  row r = (get_or above r.place [], cochain_at above r.vector)

  basis : IsReducedBasis p (IsSimplex facets (n + 1)) (IsCoboundary facets (n + 1) p) (λ (r : PlacedVector). lead (row r)) (λ r. value (row r)) bounds.rows
  basis =
      unit_sum-spans unit_cochain unit_here unit_away (IsSimplex facets (n + 1)) above all_above [] p (IsImage p (λ y. y < length above) L) (IsCoboundary facets (n + 1) p)
      (coboundary_up facets n p here all_here above all_above L by_place) (coboundary_down facets n p here all_here above all_above L by_place)
      place_of (λ (r : PlacedVector). r.vector) bounds.rows bounds.basis

  whole : (s : List ℕ) → IsCoboundaryPivot facets (n + 1) p s → Among s (map lead (map row bounds.rows))
  whole s h =
      let d = pivot_down facets (n + 1) p above all_above above_ordered {M = IsImage p (λ y. y < length above) L} {N = IsCoboundary facets (n + 1) p}
      (coboundary_up facets n p here all_here above all_above L by_place) (coboundary_down facets n p here all_here above all_above L by_place) s h in
      let m = image_pivot p (length here) (length above) field L is_linear (λ x. ⊥) walk.kernel walk.images walk.walked d.0 d.3 in
      let k : Among d.0 (map place_of bounds.rows) = subst (λ (xs : List ℕ). Among d.0 xs) (sym bounds.places) m in
      go bounds.rows d.0 d.2 k
    where
      go : (rs : List PlacedVector) (x : ℕ) → get_or above x [] ≡ s → Among x (map place_of rs) → Among s (map lead (map row rs))
      go [] x e m = elim m [ ]
      go (r ∷ rs) x e m = elim m [
        | inl q ↦ inl (ap (λ (y : ℕ). get_or above y []) q ∙ e)
        | inr k ↦ inr (go rs x e k)
      ]

  bound-rows-above : BoundRows facets (n + 1) p
  bound-rows-above = record {
    rows = map row bounds.rows;
    members = each_of_map (λ (r : Row). IsCoboundary facets (n + 1) p (value r)) row bounds.rows basis.members;
    pivots = each_of_map (λ (r : Row). IsCoboundaryPivot facets (n + 1) p (lead r)) row bounds.rows
        (each_zip (λ (r : PlacedVector) m l. record { vector = cochain_at above r.vector; member = m; lead = lead_up facets (n + 1) p above all_above above_ordered r.vector r.place l }) bounds.rows basis.members bounds.starts);
    reduced = reduced-map p row bounds.rows basis.reduced;
    all = whole;
  }

-- of a complex whose simplices of each degree are listed in order
pub listed-bounds : (facets : List (List ℕ)) (n p : ℕ) → IsField p → (ls : ℕ → List (List ℕ)) → ((m : ℕ) → ListsAll (IsSimplex facets m) (ls m)) → ((m : ℕ) → IsInOrder (ls m)) → BoundRows facets n p
listed-bounds facets zero p field ls all ordered = record { rows = []; members = tt; pivots = tt; reduced = tt; all = λ s h. absurd (no_bounds facets p s h) }
listed-bounds facets (suc n) p field ls all ordered =
    subst (λ (m : ℕ). BoundRows facets m p) (let e : n + 1 ≡ suc n = omega arith in e) (bound-rows-above facets n p field (ls n) (ls (n + 1)) (all n) (all (n + 1)) (ordered (n + 1)))

pub bound-rows : (facets : List (List ℕ)) → Each IsAscending facets → (n p : ℕ) → IsField p → BoundRows facets n p
bound-rows facets ascending n p field =
    listed-bounds facets n p field (λ m. of_degree m (simplices facets)) (λ m. listed_simplices_law.of_one_degree facets m ascending) (λ m. listed_simplices_law.degree_in_order facets m)
