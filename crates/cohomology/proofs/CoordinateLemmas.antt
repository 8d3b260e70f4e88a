-- What is left of a relative cocycle without the classes, and its canonical primitive.
use Rattle.std.proofs.Common.{◌≡◌, ℕ, zero, ◌+◌, ◌*◌, ◌-◌, ◌%◌, ◌<◌, ◌≤◌, ◌≢◌, List, [], ◌∷◌, take, map, length, get_or, arith, refl, sym, ap, ap₂, subst, ◌∙◌, mod-eq_of_lt, add_comm, MatchOption, None, Option, ◌==◌, true, eq-eqb, eqb-true}
use Rattle.cohomology.{proofs.Below.{AllZip, list_all, length-map, and_from, and_parts, Congruent, IsField, negated, sum_over, Each, IsAscending, ListsAll, IsReduced, combination, expansion, zero-mod, Congruent_add, Congruent_from, Congruent_mod, Congruent_of, Congruent_refl, Congruent_scale, Congruent_sym, Congruent_trans, add-negated, zero_if, each_among, each_map, each_of_map, each_zip, expanded_in, sum_picks, sum_vanishes, IsSimplex, AgreesOnSimplices, Cochain, HasCoordinates, IsCoboundary, IsCocycle, coboundary, cochain_of, cochain_at, bounds_close, coboundary_plus, coboundary_same, coboundary_zero, agree_by_place, cochain_at-value, lead_up, simplex_at, value_by_place, IsBelow, IsFirst, IsRow, value_in, below_of_zero, sum_take, value_in-none, IsCoboundaryOf, IsIndexOf, level, PlacedCochain, absolute_law, relative_close, relative_coboundaries, HasRelativeCoordinates, IsRelativeCoboundary, IsCanonicalRelativeBasis, IsCanonicalRelativeClass, IsCanonicalRelativePrimitive, IsRelativeCoboundaryPivot, IsRelativeCocyclePivot}, specs.Names.{Coboundary, IsPairIndexOf, chains_at, cochain_in, classes_in, AreRelativeValues, cochains_at, AreCoordinates, AreRelativeCoordinates, IsClosedIn, IsNoCoboundary, IsOpenAt, IsPrimitiveOf, IsRelativeIn, IsRelativePrimitiveOf, coboundary_at, primitives_sum, rest_in, AreRelativeCoboundaries, CohomologyData, IsCohomologyOf, IsCohomologyOfPair, IsPlacedCoboundary, IsRelativeCoboundaryOf, coboundaries_in, pivot_in}, proofs.RowLemmas.inside_row, proofs.WalkLemmas.{no_bounds, pair_with_nothing}}

combination_none : (p : ℕ) (s : List ℕ) (cs : List ℕ) (zs : List Cochain) → Each (λ z. Congruent p (z s) 0) zs → Congruent p (combination cs zs s) 0
combination_none p s [] zs h = Congruent_refl 0
combination_none p s (c ∷ cs) [] h = Congruent_refl 0
combination_none p s (c ∷ cs) (z ∷ zs) h = Congruent_from (Congruent_add (Congruent_scale c h.0) (combination_none p s cs zs h.1)) (omega arith)

-- a row that is zero everywhere is empty
empty_of_zero : (p : ℕ) (row : List (ℕ × ℕ)) → IsRow p row → ((x : ℕ) → Congruent p (value_in row x) 0) → row ≡ []
empty_of_zero p row r h = go row (below_of_zero p 0 row r (λ x b. h x))
  where
    go : (es : List (ℕ × ℕ)) → IsBelow 0 es → es ≡ []
    go [] b = refl
    go (e ∷ es) b = absurd (let c = b.0 in omega arith)

-- ---- one degree

module _ (facets parts : List (List ℕ)) (ls sls : List (List (List ℕ))) (is : IsPairIndexOf facets parts ls sls) (p : ℕ) (field : IsField p) (n : ℕ)
    (classes : List (PlacedCochain p)) (basis : IsCanonicalRelativeBasis facets parts n p (chains_at (level ls n) classes))
    (bounds : List (Coboundary p)) (are : AreRelativeCoboundaries p ls sls n bounds) where
  value_here : (row : List (ℕ × ℕ)) (x : ℕ) → x < length (level ls n) → cochain_in ls n row (get_or (level ls n) x []) ≡ value_in row x
  value_here row x b = value_by_place facets n p (level ls n) (is.full_index.lists n) row x b

  -- a coboundary that is zero at the pivots of the coboundaries is zero
  zero_at_pivots : (f : Cochain) → IsRelativeCoboundary facets parts n p f → Each (λ (b : Coboundary p). Congruent p (f (pivot_in (level ls n) b)) 0) bounds → AgreesOnSimplices facets n p f (λ s. 0)
  zero_at_pivots f f_in f_zero =
      let here = level ls n in
      let all = is.full_index.lists n in
      let v : ℕ → ℕ = λ x. f (get_or here x []) in
      let same = agree_by_place facets n p here all (cochain_at here v) f (λ x b. Congruent_of (cochain_at-value facets n p here all v x b)) in
      let none = zero_if p (length here) v
      (λ t l.
      let pivot : IsRelativeCoboundaryPivot facets parts n p (get_or here t []) = record {
        vector = cochain_at here v;
        member = (relative_coboundaries facets parts n p field.large is.inside).alike (cochain_at here v) f same f_in;
        lead = lead_up facets n p here all (is.full_index.in_order n) v t l;
      } in
      each_among (λ s. Congruent p (f s) 0) (get_or here t []) (map (pivot_in here) bounds)
      (each_of_map (λ s. Congruent p (f s) 0) (pivot_in here) bounds f_zero) (are.all facets parts (get_or here t []) is pivot)) in
      agree_by_place facets n p here all f (λ s. 0) (λ x b. none.at x b)

  -- classes are zero there
  classes_zero : (b : Coboundary p) → IsRelativeCoboundaryOf facets parts p ls n b → Each (λ zc. Congruent p (zc (pivot_in (level ls n) b)) 0) (cochains_at ls n classes)
  classes_zero b k =
      let q = k.coboundary.pivot in
      let closed_pivot : IsRelativeCocyclePivot facets parts n p (pivot_in (level ls n) b) = record { vector = q.vector; member = relative_close facets parts n p field.large is.inside q.vector q.member; lead = q.lead } in
      each_of_map (λ (zc : Cochain). Congruent p (zc (pivot_in (level ls n) b)) 0) cochain_of (chains_at (level ls n) classes)
      (go basis.canonical.pivots (chains_at (level ls n) classes) basis.canonical.canonical closed_pivot q)
    where
      go : (ss : List (List ℕ)) (ts : List (List (ℕ × List ℕ))) → AllZip (λ s terms. IsCanonicalRelativeClass facets parts n p s (cochain_of terms)) ss ts → IsRelativeCocyclePivot facets parts n p (pivot_in (level ls n) b)
          → IsRelativeCoboundaryPivot facets parts n p (pivot_in (level ls n) b) → Each (λ terms. Congruent p (cochain_of terms (pivot_in (level ls n) b)) 0) ts
      go [] [] h c q = tt
      go [] (t ∷ ts) h c q = elim h [ ]
      go (s ∷ ss) [] h c q = elim h [ ]
      go (s ∷ ss) (t ∷ ts) h c q = (h.0.canonical.others (pivot_in (level ls n) b) c (λ e. h.0.no_bound (subst (IsRelativeCoboundaryPivot facets parts n p) e q)), go ss ts h.1 c q)

  -- ---- the coboundaries by places are reduced

  one_at : (b : Coboundary p) → IsPlacedCoboundary p ls n b → IsRelativeCoboundaryOf facets parts p ls n b → Congruent p (value_in b.cochain.row b.pivot) 1
  one_at b h k = Congruent_trans (Congruent_of (sym (value_here b.cochain.row b.pivot h.pivot))) k.coboundary.one

  zero_at : (b c : Coboundary p) → IsPlacedCoboundary p ls n b → IsRelativeCoboundaryOf facets parts p ls n b → IsPlacedCoboundary p ls n c → IsRelativeCoboundaryOf facets parts p ls n c → b.pivot ≢ c.pivot
      → Congruent p (value_in b.cochain.row c.pivot) 0
  zero_at b c h k i l m =
      Congruent_trans (Congruent_of (sym (value_here b.cochain.row c.pivot i.pivot)))
      (k.coboundary.others (pivot_in (level ls n) c) l.coboundary.pivot (λ e. m ((is.full_index.lists n).once b.pivot c.pivot [] h.pivot i.pivot (sym e))))

  reduced_from : (bs : List (Coboundary p)) → Each (IsPlacedCoboundary p ls n) bs → Each (IsRelativeCoboundaryOf facets parts p ls n) bs → IsAscending (map (λ (b : Coboundary p). b.pivot) bs)
      → IsReduced p (λ (b : Coboundary p). b.pivot) (λ b. value_in b.cochain.row) bs
  reduced_from [] h k a = tt
  reduced_from (b ∷ bs) h k a = (one_at b h.0 k.0, rest bs h.1 k.1 a.0, reduced_from bs h.1 k.1 a.1)
    where
      rest : (cs : List (Coboundary p)) → Each (IsPlacedCoboundary p ls n) cs → Each (IsRelativeCoboundaryOf facets parts p ls n) cs → Each (λ w. b.pivot < w) (map (λ (c : Coboundary p). c.pivot) cs)
          → Each (λ c. Congruent p (value_in b.cochain.row c.pivot) 0 × Congruent p (value_in c.cochain.row b.pivot) 0) cs
      rest [] i l w = tt
      rest (c ∷ cs) i l w = (
        (zero_at b c h.0 k.0 i.0 l.0 (λ e. absurd (let q = w.0 in omega arith)), zero_at c b i.0 l.0 h.0 k.0 (λ e. absurd (let q = w.0 in omega arith))),
        rest cs i.1 l.1 w.1,
      )

  reduced_here : IsReduced p (λ (b : Coboundary p). b.pivot) (λ b. value_in b.cochain.row) bounds
  reduced_here = reduced_from bounds are.placed.each (are.each facets parts is) are.placed.ascends

  -- ---- what is left of a cochain without the classes is its part in the coboundaries

  module _ (z : List (ℕ × ℕ)) (values : List ℕ) (has : HasRelativeCoordinates facets parts n p (cochains_at ls n classes) (cochain_in ls n z) values) where
    left : Cochain
    left s = cochain_in ls n z s + negated p (combination values (cochains_at ls n classes) s)

    part : Cochain
    part = expansion (pivot_in (level ls n)) (λ (b : Coboundary p). cochain_in ls n b.cochain.row) bounds (cochain_in ls n z)

    part_in : IsRelativeCoboundary facets parts n p part
    unfolding part
    part_in =
        expanded_in p (pivot_in (level ls n)) (λ (b : Coboundary p). cochain_in ls n b.cochain.row) (relative_coboundaries facets parts n p field.large is.inside) (cochain_in ls n z) bounds
        (each_map (λ b k. k.coboundary.member) bounds (are.each facets parts is))

    part_value : (x : ℕ) → x < length (level ls n) → part (get_or (level ls n) x []) ≡ sum_over (λ (b : Coboundary p). value_in z b.pivot * value_in b.cochain.row x) bounds
    unfolding part
    part_value x c = go bounds are.placed.each
      where
        go : (bs : List (Coboundary p)) → Each (IsPlacedCoboundary p ls n) bs
            → sum_over (λ (b : Coboundary p). cochain_in ls n z (pivot_in (level ls n) b) * cochain_in ls n b.cochain.row (get_or (level ls n) x [])) bs
            ≡ sum_over (λ (b : Coboundary p). value_in z b.pivot * value_in b.cochain.row x) bs
        go [] h = refl
        go (b ∷ bs) h = ap₂ ◌+◌ (ap₂ ◌*◌ (value_here z b.pivot h.0.pivot) (value_here b.cochain.row x c)) (go bs h.1)

    part_at : Each (λ (b : Coboundary p). Congruent p (part (pivot_in (level ls n) b)) (cochain_in ls n z (pivot_in (level ls n) b))) bounds
    part_at =
        each_zip
        (λ b h picked. Congruent_trans (Congruent_of (part_value b.pivot h.pivot)) (Congruent_trans picked (Congruent_of (sym (value_here z b.pivot h.pivot)))))
        bounds are.placed.each (sum_picks p (λ (b : Coboundary p). b.pivot) (λ b. value_in b.cochain.row) (λ b. value_in z b.pivot) bounds reduced_here)

    less : Cochain
    less s = left s + (p - 1) * part s

    less_zero : Each (λ (b : Coboundary p). Congruent p (less (pivot_in (level ls n) b)) 0) bounds
    unfolding less left
    less_zero =
        each_zip
        (λ b same k.
        let u = pivot_in (level ls n) b in
        let none = combination_none p u values (cochains_at ls n classes) (classes_zero b k) in
        Congruent_from (Congruent_add (Congruent_scale (p - 1) none) (Congruent_add (Congruent_scale (p - 1) same) (add-negated p (cochain_in ls n z u) field.large))) (omega arith))
        bounds part_at (are.each facets parts is)

    left_is : AgreesOnSimplices facets n p left part
    unfolding less left
    left_is =
        let none = zero_at_pivots less ((relative_coboundaries facets parts n p field.large is.inside).plus (p - 1) left part has.rest part_in) less_zero in
        record { at = λ s on. Congruent_from (Congruent_add (none.at s on) (Congruent_sym (add-negated p (part s) field.large))) (omega arith) }

    -- ---- the primitive

    module _ (y : List (ℕ × ℕ)) (y_is : (x : ℕ) → Congruent p (value_in y x) (primitives_sum bounds z x)) where
      module _ (m : ℕ) (e : m + 1 ≡ n) where
        primitive_at : Each (λ (b : Coboundary p). IsCanonicalRelativePrimitive facets parts m p (cochain_in ls n b.cochain.row) (cochain_in ls m b.primitive.row)) bounds
        primitive_at =
            let lower : n - 1 ≡ m = omega arith in
            each_map (λ b k. subst (λ i. IsCanonicalRelativePrimitive facets parts i p (cochain_in ls n b.cochain.row) (cochain_in ls i b.primitive.row)) lower k.primitive) bounds (are.each facets parts is)

        low : List (Coboundary p) → Cochain
        low bs = expansion (pivot_in (level ls n)) (λ (b : Coboundary p). cochain_in ls m b.primitive.row) bs (cochain_in ls n z)

        low_coboundary : (bs : List (Coboundary p)) → Each (λ (b : Coboundary p). IsCanonicalRelativePrimitive facets parts m p (cochain_in ls n b.cochain.row) (cochain_in ls m b.primitive.row)) bs → (s : List ℕ) → IsSimplex facets (m + 1) s
            → Congruent p (expansion (pivot_in (level ls n)) (λ (b : Coboundary p). cochain_in ls n b.cochain.row) bs (cochain_in ls n z) s) (coboundary p (low bs) s)
        unfolding low
        low_coboundary [] h s on = Congruent_of (sym (coboundary_zero p s))
        low_coboundary (b ∷ bs) h s on =
            let k = cochain_in ls n z (pivot_in (level ls n) b) in
            let rest : Cochain = expansion (pivot_in (level ls n)) (λ (c : Coboundary p). cochain_in ls m c.primitive.row) bs (cochain_in ls n z) in
            let turned : coboundary p (λ t. k * cochain_in ls m b.primitive.row t + rest t) s ≡ coboundary p (λ t. rest t + k * cochain_in ls m b.primitive.row t) s =
            ap (λ (f : Cochain). coboundary p f s) (λ i t. add_comm (k * cochain_in ls m b.primitive.row t) (rest t) i) in
            Congruent_from (Congruent_add (low_coboundary bs h.1 s on) (Congruent_add (Congruent_scale k (h.0.same.at s on)) (Congruent_of {p = p} (sym (turned ∙ coboundary_plus p k rest (cochain_in ls m b.primitive.row) s))))) (omega arith)

        low_value : (x : ℕ) → x < length (level ls m) → low bounds (get_or (level ls m) x []) ≡ primitives_sum bounds z x
        unfolding low
        low_value x c = go bounds are.placed.each
          where
            go : (bs : List (Coboundary p)) → Each (IsPlacedCoboundary p ls n) bs
                → sum_over (λ (b : Coboundary p). cochain_in ls n z (pivot_in (level ls n) b) * cochain_in ls m b.primitive.row (get_or (level ls m) x [])) bs
                ≡ sum_over (λ (b : Coboundary p). value_in z b.pivot * value_in b.primitive.row x) bs
            go [] h = refl
            go (b ∷ bs) h = ap₂ ◌+◌ (ap₂ ◌*◌ (value_here z b.pivot h.0.pivot) (value_by_place facets m p (level ls m) (is.full_index.lists m) b.primitive.row x c)) (go bs h.1)

        low_same : AgreesOnSimplices facets m p (cochain_in ls m y) (low bounds)
        low_same =
            agree_by_place facets m p (level ls m) (is.full_index.lists m) (cochain_in ls m y) (low bounds)
            (λ x b. Congruent_trans (Congruent_of (value_by_place facets m p (level ls m) (is.full_index.lists m) y x b)) (Congruent_trans (y_is x) (Congruent_of (sym (low_value x b)))))

        -- where all primitives are 0, so is their sum
        low_none : (s : List ℕ) → IsSimplex facets m s → Each (λ (b : Coboundary p). Congruent p (cochain_in ls m b.primitive.row s) 0) bounds → Congruent p (cochain_in ls m y s) 0
        unfolding low
        low_none s on h =
            Congruent_trans (low_same.at s on)
            (sum_vanishes p (pivot_in (level ls n)) (λ (b : Coboundary p). cochain_in ls m b.primitive.row) (λ (b : Coboundary p). cochain_in ls n z (pivot_in (level ls n) b)) s bounds h)

        pub primitive_here : IsCanonicalRelativePrimitive facets parts m p (λ s. cochain_in ls n z s + negated p (combination values (cochains_at ls n classes) s)) (cochain_in ls m y)
        unfolding part left
        primitive_here = record {
          same = record {
            at = λ s on.
                Congruent_trans (left_is.at s (subst (λ i. IsSimplex facets i s) e on))
                (Congruent_trans (low_coboundary bounds primitive_at s on) (Congruent_sym ((coboundary_same facets m p (cochain_in ls m y) (low bounds) low_same).at s on)));
          };
          relative = record { at = λ s on. low_none s (is.inside.inside m s on) (each_map (λ b k. k.relative.at s on) bounds primitive_at) };
          vanishes = λ s q. low_none s q.lead.on (each_map (λ b k. k.vanishes s q) bounds primitive_at);
        }

      bounds_none : n ≡ 0 → bounds ≡ []
      bounds_none e = go bounds (are.each facets parts is)
        where
          go : (bs : List (Coboundary p)) → Each (IsRelativeCoboundaryOf facets parts p ls n) bs → bs ≡ []
          go [] h = refl
          go (b ∷ bs) h = absurd (no_bounds facets parts p (pivot_in (level ls n) b) (subst (λ i. IsRelativeCoboundaryPivot facets parts i p (pivot_in (level ls n) b)) e h.0.coboundary.pivot))

      pub primitive_none : n ≡ 0 → (x : ℕ) → Congruent p (value_in y x) 0
      primitive_none e x = Congruent_trans (y_is x) (Congruent_of (ap (λ (bs : List (Coboundary p)). primitives_sum bs z x) (bounds_none e)))

      pub left_none : n ≡ 0 → AgreesOnSimplices facets 0 p (λ s. cochain_in ls n z s + negated p (combination values (cochains_at ls n classes) s)) (λ s. 0)
      unfolding part left
      left_none e = record {
        at = λ s on.
            Congruent_trans (left_is.at s (subst (λ i. IsSimplex facets i s) (sym e) on))
            (Congruent_of (ap (λ (bs : List (Coboundary p)). expansion (pivot_in (level ls n)) (λ (b : Coboundary p). cochain_in ls n b.cochain.row) bs (cochain_in ls n z) s) (bounds_none e)));
      }

-- the primitives have their places one degree below
primitive_below : (p : ℕ) (ls : List (List (List ℕ))) (n : ℕ) (bounds : List (Coboundary p)) (z y : List (ℕ × ℕ)) → Each (IsPlacedCoboundary p ls n) bounds → IsRow p y
    → ((x : ℕ) → Congruent p (value_in y x) (primitives_sum bounds z x)) → IsBelow (length (level ls (n - 1))) y
primitive_below p ls n bounds z y placed row h = below_of_zero p (length (level ls (n - 1))) y row (λ x b. Congruent_trans (h x) (Congruent_of (go x b bounds placed)))
  where
    go : (x : ℕ) → length (level ls (n - 1)) ≤ x → (bs : List (Coboundary p)) → Each (IsPlacedCoboundary p ls n) bs → primitives_sum bs z x ≡ 0
    go x b [] k = refl
    go x b (c ∷ cs) k =
        let none : value_in c.primitive.row x ≡ 0 = value_in-none c.primitive.row x (each_map (λ e i f. absurd (omega arith)) c.primitive.row k.0.primitive.inside) in
        ap₂ (λ v w. value_in z c.pivot * v + w) none (go x b cs k.1) ∙ omega arith

-- ---- the steps of the code

pub primitive_step : (p : ℕ) (bs : List (Coboundary p)) (i : ℕ) (b : Coboundary p) (z old new : List (ℕ × ℕ)) (by : ℕ) → b ≡ get_or bs i b → i < length bs → by ≡ value_in z b.pivot
    → ((x : ℕ) → value_in new x ≡ (value_in old x + by * value_in b.primitive.row x) % p) → ((x : ℕ) → Congruent p (value_in old x) (primitives_sum (take i bs) z x))
    → (x : ℕ) → Congruent p (value_in new x) (primitives_sum (take (i + 1) bs) z x)
primitive_step p bs i b z old new by e l q h k x =
    let f : Coboundary p → ℕ = λ c. value_in z c.pivot * value_in c.primitive.row x in
    Congruent_trans (Congruent_of (h x))
    (Congruent_trans (Congruent_mod p (value_in old x + by * value_in b.primitive.row x))
    (Congruent_trans (Congruent_add (k x) (Congruent_of (ap (λ v. v * value_in b.primitive.row x) q)))
    (Congruent_of (sym (sum_take f bs i b l ∙ ap (λ (c : Coboundary p). sum_over f (take i bs) + f c) (sym e))))))

pub open_found : (p : ℕ) (ls : List (List (List ℕ))) (n : ℕ) (low row : List (ℕ × ℕ)) (place value : ℕ) → IsCoboundaryOf p ls n low row → IsFirst row place → value ≡ value_in row place → value < p → IsOpenAt p ls n low place value
open_found p ls n low row place value h first e small =
    let b : place < length (level ls (n + 1)) = inside_row (length (level ls (n + 1))) row place h.inside first.nonzero in
    record {
      inside = b;
      nonzero = λ z. first.nonzero (sym e ∙ z);
      small = small;
      value_is = Congruent_trans (Congruent_of e) (h.values place b);
      least = λ j less. Congruent_trans (Congruent_sym (h.values j (omega arith))) (Congruent_of (first.least j less));
    }

pub relative_made : (p : ℕ) → IsField p → (d : CohomologyData p) (z : PlacedCochain p) (values : List ℕ) (y : PlacedCochain p) (bounds : List (Coboundary p)) → bounds ≡ coboundaries_in d z.degree → y.degree ≡ z.degree - 1 → IsRow p y.row
    → ((x : ℕ) → Congruent p (value_in y.row x) (primitives_sum bounds z.row x)) → (full sub : List (List (List ℕ))) → IsCohomologyOfPair p full sub d → AreRelativeValues p full sub (classes_in d.light z.degree) z values
    → IsRelativeIn p full sub z → AreRelativeCoordinates p full sub (classes_in d.light z.degree) z values y
relative_made p field d z values y given e degree row made full sub whole tell closed =
    let n = z.degree in
    let cs = classes_in d.light n in
    let bs = coboundaries_in d n in
    let y_is : (x : ℕ) → Congruent p (value_in y.row x) (primitives_sum bs z.row x) = subst (λ (qs : List (Coboundary p)). (x : ℕ) → Congruent p (value_in y.row x) (primitives_sum qs z.row x)) e made in
    let are = whole.coboundaries n in
    let relative = (whole.classes.each n).relative in
    record {
      coordinates = λ facets parts is. tell facets parts is (closed facets parts is);
      primitive_of = record {
        placed = record { degree = degree; row_is = row; inside = primitive_below p full n bs z.row y.row are.placed.each row y_is };
        canonical = λ facets parts is b.
            primitive_here facets parts full sub is p field n cs (relative.basis facets parts is) bs are z.row values (tell facets parts is (closed facets parts is)) y.row y_is (n - 1) (omega (arith, b));
        zero = λ facets parts is q.
            let has = tell facets parts is (closed facets parts is) in
            let none = left_none facets parts full sub is p field n cs (relative.basis facets parts is) bs are z.row values has y.row y_is q in
            let empty = primitive_none facets parts full sub is p field n cs (relative.basis facets parts is) bs are z.row values has y.row y_is q in
            (none, empty_of_zero p y.row row empty);
      };
    }

-- ---- cocycles of a complex

-- a cocycle is a relative cocycle of the pair with no subcomplex
pub relative_of : (p : ℕ) (ls : List (List (List ℕ))) (z : PlacedCochain p) → ((facets : List (List ℕ)) → IsIndexOf facets ls → IsCocycle facets z.degree p (cochain_in ls z.degree z.row)) → IsRelativeIn p ls [] z
relative_of p ls z h = λ facets parts is. record { relative = record { at = λ s on. absurd (nothing is.sub_index.lists z.degree s on) }; closed = h facets is.full_index }
  where
    nothing : {parts : List (List ℕ)} → ((n : ℕ) → ListsAll (IsSimplex parts n) []) → (n : ℕ) (s : List ℕ) → IsSimplex parts n s → ⊥
    nothing lists n s on = let q = (lists n).whole s on in let b = q.1 in absurd (omega arith)

pub primitive_absolute : (p : ℕ) (ls : List (List (List ℕ))) (n : ℕ) (z : Cochain) (y : PlacedCochain p) → IsRelativePrimitiveOf p ls [] n z y → IsPrimitiveOf p ls n z y
primitive_absolute p ls n z y h = record {
  placed = h.placed;
  canonical = λ facets is b. (absolute_law.canonical_primitives facets (n - 1) p z (cochain_in ls (n - 1) y.row)).0 (h.canonical facets [] (pair_with_nothing facets ls is) b);
  zero = λ facets is e. h.zero facets [] (pair_with_nothing facets ls is) e;
}

pub coordinates_absolute : (p : ℕ) (ls : List (List (List ℕ))) (classes : List (PlacedCochain p)) (z : PlacedCochain p) (values : List ℕ) (y : PlacedCochain p) → IsClosedIn p ls z → AreRelativeCoordinates p ls [] classes z values y
    → AreCoordinates p ls classes z values y
coordinates_absolute p ls classes z values y closed h = record {
  closed = closed;
  coordinates = λ facets is. (absolute_law.coordinates facets z.degree p (cochains_at ls z.degree classes) (cochain_in ls z.degree z.row) values).0 (h.coordinates facets [] (pair_with_nothing facets ls is));
  primitive_of = primitive_absolute p ls z.degree (rest_in ls classes values z) y h.primitive_of;
}

pub closed_of : (p : ℕ) (ls : List (List (List ℕ))) (z : PlacedCochain p) → ((j : ℕ) → j < length (level ls (z.degree + 1)) → Congruent p (coboundary_at p ls z.degree z.row j) 0) → IsClosedIn p ls z
closed_of p ls z h = λ facets is. agree_by_place facets (z.degree + 1) p (level ls (z.degree + 1)) (is.lists (z.degree + 1)) (coboundary p (cochain_in ls z.degree z.row)) (λ s. 0) h

pub none_case : {X : Type 0} (o : Option X) (A : Type 0) (B : X → Type 0) → o ≡ None → MatchOption o A B → A
none_case {X} o A B e h = subst (λ (q : Option X). MatchOption q A B) e h

-- ---- which cochains are coboundaries

combination_zero : (cs : List ℕ) (zs : List Cochain) (s : List ℕ) → Each (λ c. c ≡ 0) cs → combination cs zs s ≡ 0
combination_zero [] zs s h = refl
combination_zero (c ∷ cs) [] s h = refl
combination_zero (c ∷ cs) (z ∷ zs) s h = ap₂ (λ a b. a * z s + b) h.0 (combination_zero cs zs s h.1) ∙ omega arith

less_none : (p : ℕ) (z : Cochain) (cs : List ℕ) (ws : List Cochain) → Each (λ c. c ≡ 0) cs → (λ s. z s + negated p (combination cs ws s)) ≡ z
less_none p z cs ws h = λ i s. here s i
  where
    here : (s : List ℕ) → z s + (p - 1) * combination cs ws s ≡ z s
    here s = let e : z s + (p - 1) * 0 ≡ z s = omega arith in ap (λ v. z s + (p - 1) * v) (combination_zero cs ws s h) ∙ e

pub all_zero : (vs : List ℕ) → list_all (λ v. v == 0) vs ≡ true → Each (λ (v : ℕ). v ≡ 0) vs
all_zero [] e = tt
all_zero (v ∷ vs) e = let parts = and_parts (v == 0) (list_all (λ v. v == 0) vs) e in (eqb-true v 0 parts.0, all_zero vs parts.1)

pub zero_all : (vs : List ℕ) → Each (λ (v : ℕ). v ≡ 0) vs → list_all (λ v. v == 0) vs ≡ true
zero_all [] h = refl
zero_all (v ∷ vs) h = and_from (v == 0) (list_all (λ v. v == 0) vs) (eq-eqb v 0 h.0) (zero_all vs h.1)

-- where all coordinates are 0, the rest is all
pub primitive_whole : (p : ℕ) (ls : List (List (List ℕ))) (classes : List (PlacedCochain p)) (z : PlacedCochain p) (values : List ℕ) (y : PlacedCochain p) → Each (λ v. v ≡ 0) values → AreCoordinates p ls classes z values y
    → IsPrimitiveOf p ls z.degree (cochain_in ls z.degree z.row) y
primitive_whole p ls classes z values y h are =
    subst (λ (f : Cochain). IsPrimitiveOf p ls z.degree f y) (less_none p (cochain_in ls z.degree z.row) values (cochains_at ls z.degree classes) h) are.primitive_of

zeros : List Cochain → List ℕ
zeros zs = map (λ z. 0) zs

-- a coboundary has no other coordinates than 0
pub coordinate_shows : (p : ℕ) → IsField p → (ls : List (List (List ℕ))) (d : CohomologyData p) (z : PlacedCochain p) (values : List ℕ) (y : PlacedCochain p) → IsCohomologyOf p ls d → (Each (λ v. v ≡ 0) values → ⊥)
    → AreCoordinates p ls (classes_in d.light z.degree) z values y → IsNoCoboundary p ls z.degree (cochain_in ls z.degree z.row)
unfolding zeros
coordinate_shows p field ls d z values y whole some are = λ facets is b.
    let f : Cochain = cochain_in ls z.degree z.row in
    let zs : List Cochain = cochains_at ls z.degree (classes_in d.light z.degree) in
    let none : HasCoordinates facets z.degree p zs f (zeros zs) = record {
      count = length-map zs (λ (w : Cochain). zero);
      small = each_of_map (λ (c : ℕ). c < p) (λ (w : Cochain). 0) zs (all zs);
      rest = subst (IsCoboundary facets z.degree p) (sym (less_none p f (zeros zs) zs (each_of_map (λ (c : ℕ). c ≡ 0) (λ (w : Cochain). 0) zs (each zs)))) b;
    } in
    some (subst (Each (λ (v : ℕ). v ≡ 0)) (sym (((whole.classes.canonical z.degree).basis facets is).basis.only f values (zeros zs) (are.closed facets is) (are.coordinates facets is) none)) (each_of_map (λ (c : ℕ). c ≡ 0) (λ (w : Cochain). 0) zs (each zs)))
  where
    each : (ws : List Cochain) → Each (λ (w : Cochain). zero ≡ zero) ws
    each [] = tt
    each (w ∷ ws) = (refl, each ws)

    all : (ws : List Cochain) → Each (λ (w : Cochain). 0 < p) ws
    all [] = tt
    all (w ∷ ws) = (let l = field.large in omega arith, all ws)

-- a coboundary is closed
pub open_shows : (p : ℕ) → IsField p → (ls : List (List (List ℕ))) (n : ℕ) (row : List (ℕ × ℕ)) (place value : ℕ) → IsOpenAt p ls n row place value → IsNoCoboundary p ls n (cochain_in ls n row)
open_shows p field ls n row place value open_at = λ facets is b.
    let closed = bounds_close facets n p field.large (cochain_in ls n row) b in
    let zero = Congruent_trans open_at.value_is (closed.at (get_or (level ls (n + 1)) place []) (simplex_at facets (n + 1) p (level ls (n + 1)) (is.lists (n + 1)) place open_at.inside)) in
    open_at.nonzero (sym (mod-eq_of_lt open_at.small) ∙ zero.same ∙ zero-mod p)
