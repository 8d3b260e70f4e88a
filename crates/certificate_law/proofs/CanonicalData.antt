-- Canonical primitives and classes pass the tests.
use Rattle.std.{proofs.Common.{◌≡◌, ℕ, zero, suc, ◌+◌, ◌<◌, ◌≤◌, ◌⊎◌, inl, inr, subst, ap, sym, arith, List, [], ◌∷◌, ◌++◌, length, map, get_or, length-append}, specs.List.AllZip, specs.Cmp.Lexicographic.nat_list_cmp_total, proofs.lemmas.Bool.cases_lt}
use Rattle.linear_law.{specs.Names.{IsField, Among, Each, IsApart, IsAscending, IsCanonical}, proofs.Names.{Congruent_of, Congruent_sym, apart_short, least_or_zero, among_left, among_right, each_among, each_append, each_map, each_zip, length_alike, not_zero, one-nonzero, each_of_index}}
use Rattle.simplicial_law.{specs.Names.{IsInOrder, IsSimplex, Precedes, AgreesOnSimplices, Chain, Cochain, IsCoboundary, IsCocycle, coboundary, IsCanonicalClass, IsCoboundaryPivot, IsCocyclePivot, AreCanonicalClasses, AreTerms, cochain_of, cochain_at, of_degree}, specs.ListedSimplices.simplices, proofs.Names.{bounds_close, no_bounds, listed_simplices_law, place_of_among, lists_compare, lists_strict, agree_by_place, cochain_at-value, lead_up}}
use Rattle.report_law.{specs.Names.{ArePrimitives, IsPrimitiveAt}, proofs.Names.among_or_not}
use Rattle.certificate_law.{specs.Names.{HasNewLeast, IsLeastSimplex, IsOnBelow, coboundaries_of, simplex_count}, proofs.ListedBases.{EachAfter, IsListedWell, apart_append}, proofs.PivotBases.alike_lead, proofs.PivotCounts.{pivot_lists, simplex_same_or_not}}

-- ---- lists

pub in_order_apart : (ss : List (List ℕ)) → IsInOrder ss → IsApart ss
in_order_apart [] h = tt
in_order_apart (s ∷ ss) h = (
  λ m. (let q = place_of_among s ss m in lists_strict s (subst (λ (t : List ℕ). Precedes s t) (q.2 []) (h 0 (suc q.0) (omega arith) (let b = q.1 in omega arith)))),
  in_order_apart ss (λ j k l b. h (suc j) (suc k) (omega arith) (omega arith)),
)

-- ---- leads

module _ (facets : List (List ℕ)) (ascending : Each IsAscending facets) (n p : ℕ) (field : IsField p) where
  -- a cochain is zero, or has a least simplex
  lead_or_zero : (z : Cochain) → AgreesOnSimplices facets n p z (λ s. 0) ⊎ ((s : List ℕ) × IsLeastSimplex facets n p z s)
  lead_or_zero z =
      let here : List (List ℕ) = of_degree n (simplices facets) in
      let all = listed_simplices_law.of_one_degree facets n ascending in
      let v : ℕ → ℕ = λ x. z (get_or here x []) in
      let same : AgreesOnSimplices facets n p z (cochain_at here v) = agree_by_place facets n p here all z (cochain_at here v) (λ x b. Congruent_of (sym (cochain_at-value facets n p here all v x b))) in
      elim (least_or_zero p v (length here)) [
        | inl none ↦ inl (agree_by_place facets n p here all z (λ s. 0) (λ x b. none.at x b))
        | inr f ↦ inr (
          get_or here f.0 [],
          alike_lead p field (IsSimplex facets n) Precedes lists_compare (λ x y z. nat_list_cmp_total.trans x y z) z (cochain_at here v) (get_or here f.0 []) same
              (lead_up facets n p here all (listed_simplices_law.degree_in_order facets n) v f.0 f.1),
        )
      ]

  -- a canonical vector leads at its pivot
  canonical_lead : (M : Cochain → Type 0) (s : List ℕ) (v : Cochain) → IsCanonical p (IsSimplex facets n) Precedes M s v → IsLeastSimplex facets n p v s
  canonical_lead M s v h =
      elim (lead_or_zero v) [
        | inl none ↦ absurd (not_zero p (v s) (one-nonzero p (v s) field.large h.one) (none.at s h.pivot.lead.on))
        | inr f ↦ elim (simplex_same_or_not f.0 s) [
          | inl e ↦ subst (λ (t : List ℕ). IsLeastSimplex facets n p v t) e f.1
          | inr m ↦ absurd (not_zero p (v f.0) f.1.nonzero (h.others f.0 (record { vector = v; member = h.member; lead = f.1 }) m))
        ]
      ]

  -- a cochain has one least simplex
  one_lead : (z : Cochain) (s t : List ℕ) → IsLeastSimplex facets n p z s → IsLeastSimplex facets n p z t → s ≡ t
  one_lead z s t h g = elim (lists_compare s t) [
    | inl before ↦ absurd (not_zero p (z s) h.nonzero (g.least s h.on before))
    | inr rest ↦ elim rest [ inl e ↦ e | inr after ↦ absurd (not_zero p (z t) g.nonzero (h.least t g.on after)) ]
  ]

  new_leads : (earlier : List Cochain) (es : List (List ℕ)) → AllZip (λ e y. IsLeastSimplex facets n p y e) es earlier → (zs : List Cochain) (ts : List (List ℕ)) → AllZip (λ t z. IsLeastSimplex facets n p z t) ts zs →
      IsApart ts → Each (λ t. Among t es → ⊥) ts → EachAfter (HasNewLeast facets n p) earlier zs
  new_leads earlier es h [] [] g a m = tt
  new_leads earlier es h (z ∷ zs) (t ∷ ts) g a m = (
    record { simplex = t; least = g.0; new = others es earlier h m.0 },
    new_leads (z ∷ earlier) (t ∷ es) (g.0, h) zs ts g.1 a.1 (apart_more ts a.0 m.1),
  )
    where
      others : (us : List (List ℕ)) (ys : List Cochain) → AllZip (λ e y. IsLeastSimplex facets n p y e) us ys → (Among t us → ⊥) → Each (λ y. IsLeastSimplex facets n p y t → ⊥) ys
      others [] [] k o = tt
      others (u ∷ us) (y ∷ ys) k o = (λ l. o (inl (one_lead y u t k.0 l)), others us ys k.1 (λ q. o (inr q)))
      others _ _ k o = absurd k

      apart_more : (us : List (List ℕ)) → (Among t us → ⊥) → Each (λ t. Among t es → ⊥) us → Each (λ u. Among u (t ∷ es) → ⊥) us
      apart_more [] o k = tt
      apart_more (u ∷ us) o k = (λ q. elim q [ inl e ↦ o (inl (sym e)) | inr r ↦ k.0 r ], apart_more us (λ q. o (inr q)) k.1)
  new_leads earlier es h _ _ g a m = absurd g

-- ---- canonical data

-- the primitives: their coboundaries lead at the pivots
primitive_leads : (facets : List (List ℕ)) (ascending : Each IsAscending facets) (n p : ℕ) (field : IsField p) (ss : List (List ℕ)) (ys : List Chain) → AllZip (IsPrimitiveAt facets n p) ss ys →
    AllZip (λ s z. IsLeastSimplex facets n p z s) ss (coboundaries_of p ys) × Each (IsOnBelow facets n) ys
primitive_leads facets ascending n p field [] [] h = (tt, tt)
primitive_leads facets ascending zero p field (s ∷ ss) (y ∷ ys) h = absurd (no_bounds facets p s h.0.canonical.pivot)
primitive_leads facets ascending (suc m) p field (s ∷ ss) (y ∷ ys) h =
    let rest = primitive_leads facets ascending (suc m) p field ss ys h.1 in
    let e : m + 1 ≡ suc m = omega arith in
    let same : AgreesOnSimplices facets (suc m) p h.0.bound (coboundary p (cochain_of y)) = subst (λ (k : ℕ). AgreesOnSimplices facets k p h.0.bound (coboundary p (cochain_of y))) e h.0.primitive.0.same in (
      (
        alike_lead p field (IsSimplex facets (suc m)) Precedes lists_compare (λ x y z. nat_list_cmp_total.trans x y z) (coboundary p (cochain_of y)) h.0.bound s (record { at = λ t on. Congruent_sym (same.at t on) })
            (canonical_lead facets ascending (suc m) p field (IsCoboundary facets (suc m) p) s h.0.bound h.0.canonical),
        rest.0,
      ),
      (each_map (λ t on. record { degree = m; one_less = sym e; simplex = on }) y h.0.primitive.1.simplices, rest.1),
    )
primitive_leads facets ascending n p field _ _ h = absurd h

class_leads : (facets : List (List ℕ)) (ascending : Each IsAscending facets) (n p : ℕ) (field : IsField p) (ss : List (List ℕ)) (zs : List Chain) → AllZip (λ s terms. IsCanonicalClass facets n p s (cochain_of terms)) ss zs →
    AllZip (λ s z. IsLeastSimplex facets n p z s) ss (map cochain_of zs) × (Each (λ z. IsCocycle facets n p (cochain_of z)) zs × Each (λ s. IsCocyclePivot facets n p s × (IsCoboundaryPivot facets n p s → ⊥)) ss)
class_leads facets ascending n p field [] [] h = (tt, (tt, tt))
class_leads facets ascending n p field (s ∷ ss) (z ∷ zs) h =
    let rest = class_leads facets ascending n p field ss zs h.1 in (
      (canonical_lead facets ascending n p field (IsCocycle facets n p) s (cochain_of z) h.0.canonical, rest.0),
      ((h.0.canonical.member, rest.1.0), ((h.0.canonical.pivot, h.0.no_bound), rest.1.1)),
    )
class_leads facets ascending n p field _ _ h = absurd h

-- the pivots of the coboundaries of degree n, as many as are listed below
record BoundPivots (facets : List (List ℕ)) (n p : ℕ) (below : List Chain) : Type 0 where
  pivots : List (List ℕ)
  apart : IsApart pivots
  each : Each (IsCoboundaryPivot facets n p) pivots
  all : (s : List ℕ) → IsCoboundaryPivot facets n p s → Among s pivots
  count : length pivots ≡ length below

module _ (facets : List (List ℕ)) (p count : ℕ) (below classes : ℕ → List Chain) (field : IsField p) (ascending : Each IsAscending facets)
    (primitives : (n : ℕ) → n < count → ArePrimitives facets n p (below n)) (canonical : (n : ℕ) → n < count → AreCanonicalClasses facets n p (classes n))
    (nothing : (n : ℕ) → count ≤ n → below n ≡ []) (whole : (n : ℕ) (s : List ℕ) → IsSimplex facets n s → n < count) where
  bound_pivots : (n : ℕ) → BoundPivots facets n p (below n)
  bound_pivots n =
      elim (cases_lt n count) [
        | inl b ↦ (let h = primitives n b in record {
          pivots = h.pivots;
          apart = in_order_apart h.pivots h.are.in_order;
          each = h.are.each;
          all = h.are.all;
          count = sym (length_alike (IsPrimitiveAt facets n p) h.pivots (below n) h.primitives);
        })
        | inr b ↦ record {
          pivots = [];
          apart = tt;
          each = tt;
          all = λ s h. (let w = whole n s h.lead.on in absurd (omega (arith, w, b)));
          count = sym (ap (λ (ys : List Chain). length ys) (nothing n b));
        }
      ]

  counts : (n : ℕ) (b : n < count) → simplex_count facets n ≡ length (below n) + length (classes n) + length (below (n + 1))
  counts n b =
      let bs = bound_pivots n in
      let next = bound_pivots (n + 1) in
      let c = canonical n b in
      let led = class_leads facets ascending n p field c.pivots (classes n) c.canonical in
      let lists = pivot_lists facets n p field ascending in
      let both : List (List ℕ) = bs.pivots ++ c.pivots in
      let free : Each (λ s. Among s bs.pivots → ⊥) c.pivots = each_map {Q = λ s. Among s bs.pivots → ⊥} (λ s (h : IsCocyclePivot facets n p s × (IsCoboundaryPivot facets n p s → ⊥)) m. h.1 (each_among (IsCoboundaryPivot facets n p) s bs.pivots bs.each m)) c.pivots led.1.1 in
      let apart = apart_append bs.pivots c.pivots bs.apart (in_order_apart c.pivots c.in_order) free in
      let among : (s : List ℕ) → IsCocyclePivot facets n p s → Among s both =
      λ s h. elim (among_or_not s bs.pivots) [
        | inl m ↦ among_left s bs.pivots c.pivots m
        | inr o ↦ among_right s bs.pivots c.pivots (c.all s h (λ q. o (bs.all s q)))
      ] in
      let pivots : Each (IsCocyclePivot facets n p) both = each_append (IsCocyclePivot facets n p) bs.pivots c.pivots
      (each_map (λ s (h : IsCoboundaryPivot facets n p s). record { vector = h.vector; member = bounds_close facets n p field.large h.vector h.member; lead = h.lead }) bs.pivots bs.each)
      (each_map (λ s (h : IsCocyclePivot facets n p s × (IsCoboundaryPivot facets n p s → ⊥)). h.0) c.pivots led.1.1) in
      let up = apart_short simplex_same_or_not lists.cocycles both lists.cocycles_apart (each_map among lists.cocycles lists.cocycle_pivots) in
      let down = apart_short simplex_same_or_not both lists.cocycles apart (each_map lists.cocycle both pivots) in
      let up_next = apart_short simplex_same_or_not lists.coboundaries next.pivots lists.coboundaries_apart (each_map next.all lists.coboundaries lists.coboundary_pivots) in
      let down_next = apart_short simplex_same_or_not next.pivots lists.coboundaries next.apart (each_map lists.coboundary next.pivots next.each) in
      let l = length-append bs.pivots c.pivots in
      let k = length_alike (λ s terms. IsCanonicalClass facets n p s (cochain_of terms)) c.pivots (classes n) c.canonical in
      let i = bs.count in
      let j = next.count in
      let t = lists.counted in
      omega (arith, up, down, up_next, down_next, l, k, i, j, t)

  pub canonical_listed : IsListedWell facets p count below classes
  canonical_listed = record {
    coboundaries = λ n b. (
        let h = primitives n b in
        let led = primitive_leads facets ascending n p field h.pivots (below n) h.primitives in
        record { degrees = led.1; least = new_leads facets ascending n p field [] [] tt (coboundaries_of p (below n)) h.pivots led.0 (in_order_apart h.pivots h.are.in_order) (each_of_index (λ (t : List ℕ). Among t [] → ⊥) h.pivots (λ t m q. q)) });
    nothing = nothing;
    cocycles = λ n b. (
        let c = canonical n b in
        each_zip (λ z (t : AreTerms facets n p z) k. (t.simplices, k)) (classes n) c.terms (class_leads facets ascending n p field c.pivots (classes n) c.canonical).1.0);
    new = λ n b. (
        let h = primitives n b in
        let c = canonical n b in
        let led = class_leads facets ascending n p field c.pivots (classes n) c.canonical in
        new_leads facets ascending n p field (coboundaries_of p (below n)) h.pivots (primitive_leads facets ascending n p field h.pivots (below n) h.primitives).0 (map cochain_of (classes n)) c.pivots led.0 (in_order_apart c.pivots c.in_order)
        (each_map {Q = λ s. Among s h.pivots → ⊥} (λ s (k : IsCocyclePivot facets n p s × (IsCoboundaryPivot facets n p s → ⊥)) m. k.1 (each_among (IsCoboundaryPivot facets n p) s h.pivots h.are.each m)) c.pivots led.1.1));
    counts = counts;
  }
