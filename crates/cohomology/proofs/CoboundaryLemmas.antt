-- The reduced echelon list of the coboundary rows is the canonical relative coboundaries one degree up, with their primitives.
use Rattle.std.proofs.Common.{Bool, Option, ◌≡◌, ℕ, ◌+◌, ◌-◌, ◌<◌, ◌≤◌, ◌^◌, List, [], ◌∷◌, ◌++◌, map, length, get_or, arith, lit<, sym, ap, subst, ◌∙◌, inl, inr, Vec}
use Rattle.cohomology.{proofs.Below.{maps_alike, Global, AllZip, Congruent, IsField, Among, IsAscending, IsImage, IsLinear, IsCanonical, IsPivot, Walked, Congruent_sym, Congruent_trans, among_map, each_alike, each_among, each_itself, each_map, zip_push, one-nonzero, reduced_apart, reduced_one, found, image_pivot, AgreesOnSimplices, Cochain, cochain_of, cochain_at, terms_of, coboundary_same, pivot_down, IsBelow, IsRow, value_in, level, combined, IsMarkedIn, IsSolvedStored, IsEchelonRow, IsSolvedWhole, pivot_of, row_of, EchelonRow, Stored, absolute_law, canonical_bound, canonical_primitive, coboundary_down, coboundary_up, linear, relative_coboundaries, restricted, IsSubcomplex, IsCanonicalRelativeCoboundary, IsCanonicalRelativePrimitive, IsRelativeCoboundaryPivot, below_of_zero}, specs.Names.{Coboundary, IsPairIndex, IsPairIndexOf, IsPivotTable, IsPlaced, AreCoboundaries, AreFewCoboundaries, AreRelativeCoboundaries, CohomologyData, IsCoboundaryFrom, IsCohomologyOf, IsCohomologyOfPair, IsPlacedCoboundary, IsRelativeCoboundaryOf, bounds_in, coboundaries_in, pivot_in, AreRowsOf, TellCoboundaries}, proofs.DegreeLemmas.{by_place, rows_count, skipped_places}, proofs.LoopLemmas.{AreMade, absolute_classes, made_in, no_simplex}, proofs.RowLemmas.row_agrees, proofs.WalkLemmas.{ascending_few, no_bounds, pair_with_nothing, solved_here}}

-- ---- cochains that agree

coboundary_alike : (facets parts : List (List ℕ)) (n p : ℕ) → 1 < p → IsSubcomplex parts facets → (t : List ℕ) (z w : Cochain) → AgreesOnSimplices facets n p w z → IsCanonicalRelativeCoboundary facets parts n p t z → IsCanonicalRelativeCoboundary facets parts n p t w
coboundary_alike facets parts n p large pair t z w same h = record {
  pivot = h.pivot;
  member = (relative_coboundaries facets parts n p large pair).alike w z same h.member;
  one = Congruent_trans (same.at t h.pivot.lead.on) h.one;
  others = λ s q m. Congruent_trans (same.at s q.lead.on) (h.others s q m);
}

primitive_alike : (facets parts : List (List ℕ)) (n p : ℕ) → IsSubcomplex parts facets → (z w y x : Cochain) → AgreesOnSimplices facets (n + 1) p w z → AgreesOnSimplices facets n p x y
    → IsCanonicalRelativePrimitive facets parts n p z y → IsCanonicalRelativePrimitive facets parts n p w x
primitive_alike facets parts n p pair z w y x high low h = record {
  same = record { at = λ s on. Congruent_trans (high.at s on) (Congruent_trans (h.same.at s on) (Congruent_sym ((coboundary_same facets n p x y low).at s on))) };
  relative = record { at = λ s on. Congruent_trans ((restricted facets parts n p x y pair low).at s on) (h.relative.at s on) };
  vanishes = λ s q. Congruent_trans (low.at s q.lead.on) (h.vanishes s q);
}

-- ---- one degree

module _ (facets parts : List (List ℕ)) (ls sls : List (List (List ℕ))) (is : IsPairIndexOf facets parts ls sls) (p : ℕ) (field : IsField p)
    (n : ℕ) (pivots : List (Option ℕ)) (table : IsPivotTable p ls sls n pivots) (rows : List (List (ℕ × ℕ))) (skip : List Bool) (of : AreRowsOf p ls sls n pivots rows skip)
    (solutions : List (List (ℕ × ℕ))) (owner : List (Option ℕ)) (echelon : List (EchelonRow p)) (whole : IsSolvedWhole p (length (level ls (n + 1))) rows skip solutions owner echelon) where
  linear_here : IsLinear p (length (level ls n)) (λ y. y < length (level ls (n + 1))) (combined rows)
  linear_here = linear facets parts n p is.inside (level ls n) (is.full_index.lists n) (level ls (n + 1)) (is.full_index.lists (n + 1)) (combined rows) (by_place facets parts ls sls is p field n pivots rows skip of)

  walked_here : Walked p (length (level ls n)) (length (level ls (n + 1))) (combined rows) (IsMarkedIn skip) 0 whole.solved.kernel whole.solved.images
  walked_here =
      subst (λ m. Walked p m (length (level ls (n + 1))) (combined rows) (IsMarkedIn skip) 0 whole.solved.kernel whole.solved.images)
      (rows_count facets parts ls sls is p field n pivots rows skip of) whole.solved.walked

  abbrev Image : (ℕ → ℕ) → Type 0
  Image w = IsImage p (λ y. y < length (level ls (n + 1))) (combined rows) w

  image_among : (y : ℕ) → IsPivot p (λ y. y < length (level ls (n + 1))) (λ a b. a < b) Image y → Among y (map pivot_of echelon)
  image_among y q =
      let a = image_pivot p (length (level ls n)) (length (level ls (n + 1))) field (combined rows) linear_here (IsMarkedIn skip) whole.solved.kernel whole.solved.images walked_here y q in
      whole.reduced.whole y (omega arith) q.lead.on ((whole.solved.owned y q.lead.on).1 a)

  canonical_row : (e : EchelonRow p) → Among e echelon → IsCanonical p (λ y. y < length (level ls (n + 1))) (λ a b. a < b) Image e.pivot (value_in e.row)
  canonical_row e mem =
      let i = each_among (IsEchelonRow p (length (level ls (n + 1))) rows skip whole.solved.kernel) e echelon whole.reduced.each mem in
      let one = reduced_one p pivot_of row_of e echelon whole.reduced.reduced mem in
      let inside : Image (value_in e.row) = record { source = value_in e.combination; same = record { at = λ y on. Congruent_sym (i.from.at y on) } } in
      record {
        pivot = record { vector = value_in e.row; member = inside; lead = record { on = i.inside; nonzero = one-nonzero p (value_in e.row e.pivot) field.large one; least = λ y on b. i.starts.before y b } };
        member = inside;
        one = one;
        others = λ y q m. elim (found pivot_of y echelon) [
          | inr none ↦ absurd (none (image_among y q))
          | inl f ↦
              let P : ℕ → Type 0 = λ t. Congruent p (value_in e.row t) 0 in
              subst P f.2 (reduced_apart p pivot_of row_of e f.0 echelon whole.reduced.reduced mem f.1 (λ c. m (sym f.2 ∙ c)))
        ];
      }

  bound_coboundary : (e : EchelonRow p) → Among e echelon → IsCanonicalRelativeCoboundary facets parts (n + 1) p (get_or (level ls (n + 1)) e.pivot []) (cochain_of (terms_of (level ls (n + 1)) e.row))
  bound_coboundary e mem =
      let here = level ls n in
      let above = level ls (n + 1) in
      let lists = is.full_index.lists in
      let order = is.full_index.in_order in
      coboundary_alike facets parts (n + 1) p field.large is.inside (get_or above e.pivot []) (cochain_at above (value_in e.row)) (cochain_of (terms_of above e.row)) (row_agrees facets (n + 1) p above (lists (n + 1)) e.row)
      (canonical_bound facets parts n p field is.inside here (lists n) (order n) above (lists (n + 1)) (order (n + 1)) (combined rows) (by_place facets parts ls sls is p field n pivots rows skip of) (IsMarkedIn skip)
      (skipped_places facets parts ls sls is p field n pivots rows skip of table.whole (table.places facets parts is)) whole.solved.kernel whole.solved.images walked_here e.pivot (value_in e.row) (canonical_row e mem))

  bound_primitive : (e : EchelonRow p) → Among e echelon → IsCanonicalRelativePrimitive facets parts n p (cochain_of (terms_of (level ls (n + 1)) e.row)) (cochain_of (terms_of (level ls n) e.combination))
  bound_primitive e mem =
      let here = level ls n in
      let above = level ls (n + 1) in
      let lists = is.full_index.lists in
      let order = is.full_index.in_order in
      let i = each_among (IsEchelonRow p (length above) rows skip whole.solved.kernel) e echelon whole.reduced.each mem in
      primitive_alike facets parts n p is.inside (cochain_at above (value_in e.row)) (cochain_of (terms_of above e.row)) (cochain_at here (value_in e.combination)) (cochain_of (terms_of here e.combination))
      (row_agrees facets (n + 1) p above (lists (n + 1)) e.row) (row_agrees facets n p here (lists n) e.combination)
      (canonical_primitive facets parts n p field is.inside here (lists n) (order n) above (lists (n + 1)) (order (n + 1)) (combined rows) (by_place facets parts ls sls is p field n pivots rows skip of) (IsMarkedIn skip)
      (skipped_places facets parts ls sls is p field n pivots rows skip of table.whole (table.places facets parts is)) whole.solved.kernel whole.solved.images walked_here
      (value_in e.row) (value_in e.combination) i.from i.apart i.skips)

  bound_all : (s : List ℕ) → IsRelativeCoboundaryPivot facets parts (n + 1) p s → Among s (map (λ (e : EchelonRow p). get_or (level ls (n + 1)) e.pivot []) echelon)
  bound_all s q =
      let outer = by_place facets parts ls sls is p field n pivots rows skip of in
      let lists = is.full_index.lists in
      let d = pivot_down facets (n + 1) p (level ls (n + 1)) (lists (n + 1)) (is.full_index.in_order (n + 1))
      (coboundary_up facets parts n p is.inside (level ls n) (lists n) (level ls (n + 1)) (lists (n + 1)) (combined rows) outer)
      (coboundary_down facets parts n p is.inside (level ls n) (lists n) (level ls (n + 1)) (lists (n + 1)) (combined rows) outer) s q in
      elim (found pivot_of d.0 echelon) [
        | inr none ↦ absurd (none (image_among d.0 d.3))
        | inl f ↦ among_map (λ (e : EchelonRow p). get_or (level ls (n + 1)) e.pivot []) f.0 s echelon f.1 (ap (λ x. get_or (level ls (n + 1)) x []) f.2 ∙ d.2)
      ]

-- ---- all of one degree

pub coboundaries_more : {p : ℕ} (n : ℕ) (rows : List (EchelonRow p)) (made more : List (Coboundary p)) (e : EchelonRow p) (b : Coboundary p) → more ≡ made ++ (b ∷ []) → AllZip (IsCoboundaryFrom n) rows made → IsCoboundaryFrom n e b
    → AllZip (IsCoboundaryFrom n) (rows ++ (e ∷ [])) more
coboundaries_more {p} n rows made more e b q h k = subst (λ (bs : List (Coboundary p)). AllZip (IsCoboundaryFrom n) (rows ++ (e ∷ [])) bs) (sym q) (zip_push (IsCoboundaryFrom n) rows made e b h k)

module _ (p : ℕ) (field : IsField p) (full sub : List (List (List ℕ))) (pair : IsPairIndex full sub) (n : ℕ) (pivots : List (Option ℕ)) (table : IsPivotTable p full sub n pivots)
    (rows : List (List (ℕ × ℕ))) (skip : List Bool) (of : AreRowsOf p full sub n pivots rows skip) (width : ℕ) (e : width ≡ length (level full (n + 1))) (solutions : List (List (ℕ × ℕ))) (owner : List (Option ℕ))
    (stored : List (Stored p)) (given : IsSolvedStored p width rows skip solutions owner stored) where
  module _ (echelon : List (EchelonRow p)) (bounds : List (Coboundary p)) (whole : IsSolvedWhole p (length (level full (n + 1))) rows skip solutions owner echelon) (same : AllZip (IsCoboundaryFrom n) echelon bounds) where
    lower : n + 1 - 1 ≡ n
    lower = omega arith

    placed_one : (r : EchelonRow p) (b : Coboundary p) → IsCoboundaryFrom n r b → IsEchelonRow p (length (level full (n + 1))) rows skip whole.solved.kernel r → IsPlacedCoboundary p full (n + 1) b
    placed_one r b from i =
        let high = below_of_zero p (length (level full (n + 1))) r.row i.rows_are.0 i.wide in
        let count = rows_count pair.facets pair.parts full sub pair.index p field n pivots rows skip of in
        let low = below_of_zero p (length (level full n)) r.combination i.rows_are.1 (λ y b. i.short y (omega (arith, b, count))) in
        record {
          pivot = let q = from.pivot in let c = i.inside in omega (arith, q, c);
          cochain = record { degree = from.degree; row_is = subst (IsRow p) (sym from.row) i.rows_are.0; inside = subst (IsBelow (length (level full (n + 1)))) (sym from.row) high };
          primitive = subst (λ m. IsPlaced p full m b.primitive) (sym lower)
              (record { degree = from.degree_below; row_is = subst (IsRow p) (sym from.row_below) i.rows_are.1; inside = subst (IsBelow (length (level full n))) (sym from.row_below) low });
        }

    solved_bounds : AreRelativeCoboundaries p full sub (n + 1) bounds
    solved_bounds = record {
      placed = record {
        each = each_alike (IsCoboundaryFrom n) (IsEchelonRow p (length (level full (n + 1))) rows skip whole.solved.kernel) (IsPlacedCoboundary p full (n + 1)) placed_one echelon bounds same whole.reduced.each;
        ascends = subst IsAscending (maps_alike (IsCoboundaryFrom n) pivot_of (λ (b : Coboundary p). b.pivot) (λ r b from. from.pivot) echelon bounds same) whole.reduced.ascends;
      };
      each = λ facets parts is.
          each_alike (IsCoboundaryFrom n) (λ (r : EchelonRow p). Among r echelon) (IsRelativeCoboundaryOf facets parts p full (n + 1))
          (λ r b from mem.
          let c = bound_coboundary facets parts full sub is p field n pivots table rows skip of solutions owner echelon whole r mem in
          let q = bound_primitive facets parts full sub is p field n pivots table rows skip of solutions owner echelon whole r mem in
          let here = level full (n + 1) in
          record {
            coboundary = subst (λ x. IsCanonicalRelativeCoboundary facets parts (n + 1) p (get_or here x []) (cochain_of (terms_of here b.cochain.row))) (sym from.pivot)
                (subst (λ row. IsCanonicalRelativeCoboundary facets parts (n + 1) p (get_or here r.pivot []) (cochain_of (terms_of here row))) (sym from.row) c);
            primitive = subst (λ i. IsCanonicalRelativePrimitive facets parts i p (cochain_of (terms_of here b.cochain.row)) (cochain_of (terms_of (level full i) b.primitive.row))) (sym lower)
                (subst (λ row. IsCanonicalRelativePrimitive facets parts n p (cochain_of (terms_of here row)) (cochain_of (terms_of (level full n) b.primitive.row))) (sym from.row)
                (subst (λ low. IsCanonicalRelativePrimitive facets parts n p (cochain_of (terms_of here r.row)) (cochain_of (terms_of (level full n) low))) (sym from.row_below) q));
          })
          echelon bounds same (each_itself echelon);
      all = λ facets parts s is q.
          subst (Among s) (maps_alike (IsCoboundaryFrom n) (λ (r : EchelonRow p). get_or (level full (n + 1)) r.pivot []) (pivot_in (level full (n + 1))) (λ r b from. ap (λ x. get_or (level full (n + 1)) x []) from.pivot) echelon bounds same)
          (bound_all facets parts full sub is p field n pivots table rows skip of solutions owner echelon whole s q);
    }

  pub solved_tells : TellCoboundaries p full sub n stored owner
  solved_tells echelon bounds from same =
      solved_bounds echelon bounds (from.from (length (level full (n + 1))) rows skip solutions (solved_here p field full sub pair n pivots table rows skip of width e solutions owner stored given)) same

-- ---- the loop over the degrees

pub no_coboundaries : (p : ℕ) (full sub : List (List (List ℕ))) (bounds : List (Coboundary p)) → bounds ≡ [] → AreRelativeCoboundaries p full sub 0 bounds
no_coboundaries p full sub bounds e = subst (λ (bs : List (Coboundary p)). AreRelativeCoboundaries p full sub 0 bs) (sym e) (record {
  placed = record { each = tt; ascends = tt };
  each = λ facets parts is. tt;
  all = λ facets parts s is q. absurd (no_bounds facets parts p s q);
})

coboundaries_past : (p : ℕ) (full sub : List (List (List ℕ))) (n : ℕ) → length full ≤ n → AreRelativeCoboundaries p full sub n []
coboundaries_past p full sub n past = record {
  placed = record { each = tt; ascends = tt };
  each = λ facets parts is. tt;
  all = λ facets parts s is q. absurd (no_simplex facets full n past is.full_index s q.lead.on);
}

abbrev pub AreBound : (p : ℕ) → List (List (List ℕ)) → List (List (List ℕ)) → ℕ → Vec (Coboundary p) Global → Type 0
AreBound p full sub n v = AreRelativeCoboundaries p full sub n v.items × (length v.items < 2 ^ 32)

-- no more coboundaries than simplices
pub bounds_few : (p : ℕ) (full sub : List (List (List ℕ))) (n : ℕ) (v : Vec (Coboundary p) Global) → AreRelativeCoboundaries p full sub n v.items → length (level full n) < 2 ^ 32 → AreBound p full sub n v
bounds_few p full sub n v h b = (
  h,
  let few = ascending_few (λ (b : Coboundary p). b.pivot) (length (level full n)) 0 v.items (each_map (λ b placed. (omega arith, placed.pivot)) v.items h.placed.each) h.placed.ascends (omega arith) in omega (arith, few, b),
)

pub bounds_all : (p : ℕ) (full sub : List (List (List ℕ))) (degree : ℕ) (made : List (Vec (Coboundary p) Global)) → length full ≤ degree → AreMade (AreBound p full sub) degree made → (n : ℕ) → AreRelativeCoboundaries p full sub n (bounds_in made n)
bounds_all p full sub degree made e h =
    made_in (AreBound p full sub) (λ v. v.items) (λ v. v.items) (λ m x y. AreRelativeCoboundaries p full sub m x) (λ m v k. k.0) degree made h (λ m b. coboundaries_past p full sub m (omega (arith, b, e)))

pub bounds_all_few : (p : ℕ) (full sub : List (List (List ℕ))) (degree : ℕ) (made : List (Vec (Coboundary p) Global)) → AreMade (AreBound p full sub) degree made → AreFewCoboundaries made
bounds_all_few p full sub degree made h = record { each = made_in (AreBound p full sub) (λ v. v.items) (λ v. v.items) (λ m x y. length x < 2 ^ 32) (λ m v k. k.1) degree made h (λ m b. lit< tt) }

-- ---- the coboundaries of a complex

pub absolute_coboundaries : (p : ℕ) (ls : List (List (List ℕ))) (n : ℕ) (bounds : List (Coboundary p)) → AreRelativeCoboundaries p ls [] n bounds → AreCoboundaries p ls n bounds
absolute_coboundaries p ls n bounds h = record {
  placed = h.placed;
  each = λ facets is.
      each_map (λ b k. record {
        coboundary = (absolute_law.canonical_coboundaries facets n p (pivot_in (level ls n) b) (cochain_of (terms_of (level ls n) b.cochain.row))).0 k.coboundary;
        primitive = (absolute_law.canonical_primitives facets (n - 1) p (cochain_of (terms_of (level ls n) b.cochain.row)) (cochain_of (terms_of (level ls (n - 1)) b.primitive.row))).0 k.primitive;
      })
      bounds (h.each facets [] (pair_with_nothing facets ls is));
  all = λ facets s is q. h.all facets [] s (pair_with_nothing facets ls is) ((absolute_law.coboundary_pivots facets n p s).1 q);
}

pub absolute_data : (p : ℕ) (ls : List (List (List ℕ))) (d : CohomologyData p) → IsCohomologyOfPair p ls [] d → IsCohomologyOf p ls d
absolute_data p ls d h = record {
  classes = absolute_classes p ls d.light h.classes;
  coboundaries = λ n. absolute_coboundaries p ls n (coboundaries_in d n) (h.coboundaries n);
  pair = h;
}
