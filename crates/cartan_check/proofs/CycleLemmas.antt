-- The canonical coboundaries of a complex, and the cycle of a class as a report tells it.
use Rattle.std.{proofs.Common.{◌≡◌, ◌≢◌, ◌⊎◌, inl, inr, ℕ, zero, suc, ◌+◌, ◌<◌, ◌≤◌, List, [], ◌∷◌, map, length, get_or, arith, refl, sym, ap, subst, ◌∙◌, slice_get, Some}, specs.List.AllZip, proofs.lemmas.Bool.cases_lt}
use Rattle.linear_law.{specs.Names.{Congruent, IsField, Among, Each, IsAscending}, proofs.Names.{among_map, each_among, each_itself, each_map, each_of_map, reduced_apart, reduced_one, same_or_not}}
use Rattle.simplicial_law.{specs.Names.{Precedes, Chain, Cochain as SimplexCochain, IsCanonicalClass, IsCanonicalCoboundary, IsCoboundaryPivot, cochain_of, terms_of}, proofs.Names.{lists_compare, lists_strict, ordered_places}}
use Rattle.complex_index.specs.{declared.indexed.Cochain.Cochain, Names.{IsIndexOf, level}}
use Rattle.cohomology.specs.Names.{AreCanonicalIn, chains_at, cochain_in, IsCanonicalCycle}
use Rattle.report_law.{specs.Names.{ArePivots, IsCycleOf}, proofs.Names.{BoundRows, Row, lead, listed-bounds, value, among_or_not, of-map}}
use Rattle.op_matrix.proofs.ColumnLemmas.{terms}

-- ---- the row of a pivot

choose : (t : List ℕ) (r : Row) → SimplexCochain → (lead r ≡ t) ⊎ (lead r ≢ t) → SimplexCochain
choose t r c (inl e) = value r
choose t r c (inr n) = c

bound_at : List Row → List ℕ → SimplexCochain
bound_at [] t = λ s. 0
bound_at (r ∷ rs) t = choose t r (bound_at rs t) (same_or_not Precedes lists_compare lists_strict (lead r) t)

module _ (Q : List ℕ → SimplexCochain → Type 0) (t : List ℕ) where
  chosen : (r : Row) (c : SimplexCochain) (d : (lead r ≡ t) ⊎ (lead r ≢ t)) → Q (lead r) (value r) → (lead r ≢ t → Q t c) → Q t (choose t r c d)
  unfolding choose
  chosen r c (inl e) h k = subst (λ (u : List ℕ). Q u (value r)) e h
  chosen r c (inr n) h k = k n

  found : (rs : List Row) → Among t (map lead rs) → Each (λ r. Q (lead r) (value r)) rs → Q t (bound_at rs t)
  unfolding bound_at
  found [] m h = elim m [ ]
  found (r ∷ rs) m h =
      chosen r (bound_at rs t) (same_or_not Precedes lists_compare lists_strict (lead r) t) h.0
      (λ n. elim m [ inl e ↦ absurd (n e) | inr k ↦ found rs k h.1 ])

-- ---- the places of pivots

-- the places from i on whose simplex is one of these
record Picked (leads here : List (List ℕ)) (i : ℕ) : Type 0 where
  places : List ℕ
  ascends : IsAscending places
  later : Each (λ x. i ≤ x) places
  below : Each (λ x. x < length here) places
  among : Each (λ x. Among (get_or here x []) leads) places
  whole : (x : ℕ) → i ≤ x → x < length here → Among (get_or here x []) leads → Among x places

picked : (leads here : List (List ℕ)) (k i : ℕ) → i + k ≡ length here → Picked leads here i
picked leads here zero i e = record { places = []; ascends = tt; later = tt; below = tt; among = tt; whole = λ x a b m. absurd (omega (arith, e, a, b)) }
picked leads here (suc k) i e =
    let rest = picked leads here k (suc i) (omega (arith, e)) in
    let weaker = each_map (λ x (l : suc i ≤ x). (let r : i ≤ x = omega (arith, l) in r)) rest.places rest.later in
    elim (among_or_not (get_or here i []) leads) [
      | inl m ↦ record {
        places = i ∷ rest.places;
        ascends = (each_map (λ x (l : suc i ≤ x). (let r : i < x = omega (arith, l) in r)) rest.places rest.later, rest.ascends);
        later = (omega arith, weaker);
        below = (omega (arith, e), rest.below);
        among = (m, rest.among);
        whole = λ x a b n. elim (cases_lt i x) [ inl l ↦ inr (rest.whole x (omega (arith, l)) b n) | inr g ↦ inl (omega (arith, a, g)) ];
      }
      | inr o ↦ record {
        places = rest.places;
        ascends = rest.ascends;
        later = weaker;
        below = rest.below;
        among = rest.among;
        whole = λ x a b n. elim (cases_lt i x) [
          | inl l ↦ rest.whole x (omega (arith, l)) b n
          | inr g ↦ absurd (o (let q : x ≡ i = omega (arith, a, g) in subst (λ (y : ℕ). Among (get_or here y []) leads) q n))
        ];
      }
    ]

module _ (facets : List (List ℕ)) (levels : List (List (List ℕ))) (n p : ℕ) (field : IsField p) (is : IsIndexOf facets levels) where
  abbrev here : List (List ℕ)
  here = level levels n

  abbrev given : BoundRows facets n p
  given = listed-bounds facets n p field (level levels) is.lists is.in_order

  canonical-row : (r : Row) → Among r given.rows → IsCanonicalCoboundary facets n p (lead r) (value r)
  canonical-row r m = record {
    pivot = each_among (λ (s : Row). IsCoboundaryPivot facets n p (lead s)) r given.rows given.pivots m;
    member = each_among (λ (s : Row). _) r given.rows given.members m;
    one = reduced_one p lead value r given.rows given.reduced m;
    others = λ y q o.
        let s = of-map lead given.rows y (given.all y q) in
        subst (λ (t : List ℕ). Congruent p (value r t) 0) s.2 (reduced_apart p lead value r s.0 given.rows given.reduced m s.1 (λ e. o (sym s.2 ∙ e)));
  }

  abbrev pick : Picked (map lead given.rows) here 0
  pick = picked (map lead given.rows) here (length here) 0 (omega arith)

  abbrev pivots : List (List ℕ)
  pivots = map (λ (x : ℕ). get_or here x []) pick.places

  bound : List ℕ → SimplexCochain
  bound = bound_at given.rows

  leads : Each (λ s. Among s (map lead given.rows)) pivots
  leads = each_of_map (λ s. Among s (map lead given.rows)) (λ (x : ℕ). get_or here x []) pick.places pick.among

  are : ArePivots facets n p pivots
  are = record {
    in_order = ordered_places here (is.in_order n) (λ (x : ℕ). x) pick.places (subst IsAscending (sym (itself pick.places)) pick.ascends) pick.below;
    each = each_map (λ s m. each_among (IsCoboundaryPivot facets n p) s (map lead given.rows) (each_of_map (IsCoboundaryPivot facets n p) lead given.rows given.pivots) m) pivots leads;
    all = λ s q.
        let k = (is.lists n).whole s q.lead.on in
        let m : Among (get_or here k.0 []) (map lead given.rows) = subst (λ (t : List ℕ). Among t (map lead given.rows)) (sym (k.2 [])) (given.all s q) in
        among_map (λ (x : ℕ). get_or here x []) k.0 s pick.places (pick.whole k.0 (omega arith) k.1 m) (k.2 []);
  }
    where
      itself : (xs : List ℕ) → map (λ (x : ℕ). x) xs ≡ xs
      itself [] = refl
      itself (x ∷ xs) = ap (λ (ys : List ℕ). x ∷ ys) (itself xs)

  bounds : Each (λ t. IsCanonicalCoboundary facets n p t (bound t)) pivots
  unfolding bound
  bounds = each_map (λ t m. found (IsCanonicalCoboundary facets n p) t given.rows m (each_map canonical-row given.rows (each_itself given.rows))) pivots leads

  -- the pivot of a class
  pivot-of : (ss : List (List ℕ)) (ts : List Chain) (i : ℕ) → i < length ts → AllZip (λ s terms. IsCanonicalClass facets n p s (cochain_of terms)) ss ts → (s : List ℕ) × IsCanonicalClass facets n p s (cochain_of (get_or ts i []))
  pivot-of [] [] i b h = absurd (omega (arith, b))
  pivot-of [] (t ∷ ts) i b h = absurd h
  pivot-of (s ∷ ss) [] i b h = absurd h
  pivot-of (s ∷ ss) (t ∷ ts) zero b h = (s, h.0)
  pivot-of (s ∷ ss) (t ∷ ts) (suc i) b h = pivot-of ss ts i (omega (arith, b)) h.1

  -- the kept cycle is the cycle that a report tells
  pub cycle-of : (classes : List (Cochain p)) (i : ℕ) (y : Cochain p) → AreCanonicalIn p levels n classes → i < length classes → IsCanonicalCycle p levels n classes i y
      → IsCycleOf facets n p (cochain_of (get_or (chains_at {p = p} here classes) i [])) (terms_of here y.row)
  cycle-of classes i y canonical inside h =
      let at = class-at classes i inside in
      let s = pivot-of (canonical.basis facets is).canonical.pivots (chains_at {p = p} here classes) i at.3 (canonical.basis facets is).canonical.canonical in
      let class : IsCanonicalClass facets n p s.0 (cochain_in levels n at.0.row) = subst (λ (c : Chain). IsCanonicalClass facets n p s.0 (cochain_of c)) at.2 s.1 in
      record {
        pivot = s.0;
        class = s.1;
        cycle_at = record {
          pivots = pivots;
          are = are;
          bound = bound;
          canonical = bounds;
          same = h.chain facets is at.0 s.0 pivots bound at.1 class are.in_order are.each are.all bounds;
          terms_are = terms facets levels p is n y.row h.placed.inside h.placed.row_is;
        };
      }
    where
      class-at : (cs : List (Cochain p)) (k : ℕ) → k < length cs
          → (c : Cochain p) × (slice_get cs k ≡ Some c) × (get_or (chains_at {p = p} here cs) k [] ≡ terms_of here c.row) × (k < length (chains_at {p = p} here cs))
      class-at [] k b = absurd (omega (arith, b))
      class-at (c ∷ cs) zero b = (c, refl, refl, omega arith)
      class-at (c ∷ cs) (suc k) b = let r = class-at cs k (omega (arith, b)) in (r.0, r.1, r.2, omega (arith, r.3))
