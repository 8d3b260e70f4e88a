-- Listed classes that pass the tests are a basis of cohomology.
use Rattle.std.{proofs.Common.{◌≡◌, ℕ, zero, suc, ◌+◌, ◌<◌, ◌≤◌, inl, inr, subst, refl, ap, sym, arith, List, [], ◌∷◌, ◌++◌, length, map, length-append}, specs.List.AllZip, proofs.lemmas.Bool.cases_lt, proofs.lemmas.List.length-map}
use Rattle.linear_law.{specs.Names.{IsField, Among, Each, IsApart, IsAscending, IsPivot}, proofs.Names.{Congruent_refl, each_among, each_append, each_map, each_of_map, length_alike}}
use Rattle.simplicial_law.{specs.Names.{IsSimplex, Precedes, Chain, Cochain, IsCoboundary, IsCocycle, IsCohomologyBasis, coboundary, unit_cochain, IsCoboundaryPivot, IsCocyclePivot, cochain_of}, proofs.Names.{bounds_close, no_bounds, unit_away}}
use Rattle.certificate_law.{specs.Names.{HasNewLeast, IsCounted, IsLeastSimplex, IsOn, IsOnBelow, coboundaries_of, simplex_count}, proofs.PivotCounts.{all_coboundary_pivots, all_cocycle_pivots}, proofs.Places.in_append, proofs.CohomologyBases.{complementary_basis, zip_among}}

-- ---- what the conditions on degrees ask

-- P holds of each element, together with the earlier ones, the latest first
abbrev pub EachAfter : {X : Type 0} → (List X → X → Type 0) → List X → List X → Type 0
EachAfter P earlier [] = Unit {0}
EachAfter P earlier (x ∷ xs) = P earlier x × EachAfter P (x ∷ earlier) xs

-- The coboundaries of the listed cochains of one degree less are not zero, and their least simplices differ.
pub record HasDifferentCoboundaries (facets : List (List ℕ)) (n p : ℕ) (below : List Chain) : Type 0 where
  pub degrees : Each (IsOnBelow facets n) below
  pub least : EachAfter (HasNewLeast facets n p) [] (coboundaries_of p below)

-- Each class is a cocycle.
abbrev pub HasCocycles : List (List ℕ) → ℕ → ℕ → List Chain → Type 0
HasCocycles facets n p classes = Each (λ z. IsOn facets n z × IsCocycle facets n p (cochain_of z)) classes

-- The classes are not zero, and their least simplices differ and are not those of the coboundaries.
abbrev pub HasDifferentClasses : List (List ℕ) → ℕ → ℕ → List Chain → List Chain → Type 0
HasDifferentClasses facets n p below classes = EachAfter (HasNewLeast facets n p) (coboundaries_of p below) (map cochain_of classes)

-- What is asked of the degrees before `count`: for each degree are listed cochains of one degree less, and classes.
pub record IsListedWell (facets : List (List ℕ)) (p count : ℕ) (below classes : ℕ → List Chain) : Type 0 where
  pub coboundaries : (n : ℕ) → n < count → HasDifferentCoboundaries facets n p (below n)
  pub nothing : (n : ℕ) → count ≤ n → below n ≡ []
  pub cocycles : (n : ℕ) → n < count → HasCocycles facets n p (classes n)
  pub new : (n : ℕ) → n < count → HasDifferentClasses facets n p (below n) (classes n)
  pub counts : (n : ℕ) → n < count → IsCounted facets n (below n) (classes n) (below (n + 1))

-- ---- lists

pub apart_append : {X : Type 0} (xs ys : List X) → IsApart xs → IsApart ys → Each (λ y. Among y xs → ⊥) ys → IsApart (xs ++ ys)
apart_append [] ys a b h = b
apart_append (x ∷ xs) ys a b h = (away xs ys a.0 (each_map (λ y g. g) ys h), apart_append xs ys a.1 b (each_map (λ y g m. g (inr m)) ys h))
  where
    away : (zs ws : List _) → (Among x zs → ⊥) → Each (λ y. Among y (x ∷ xs) → ⊥) ws → Among x (zs ++ ws) → ⊥
    away [] (w ∷ ws) n h m = elim m [ inl e ↦ h.0 (inl (sym e)) | inr k ↦ away [] ws n h.1 k ]
    away [] [] n h m = m
    away (z ∷ zs) ws n h m = elim m [ inl e ↦ n (inl e) | inr k ↦ away zs ws (λ i. n (inr i)) h k ]

-- ---- leads

record Leads (facets : List (List ℕ)) (n p : ℕ) (earlier zs : List Cochain) : Type 0 where
  simplices : List (List ℕ)
  leads : AllZip (IsLeastSimplex facets n p) zs simplices
  apart : IsApart simplices
  new : Each (λ t. Each (λ y. IsLeastSimplex facets n p y t → ⊥) earlier) simplices

leads_of : (facets : List (List ℕ)) (n p : ℕ) (earlier zs : List Cochain) → EachAfter (HasNewLeast facets n p) earlier zs → Leads facets n p earlier zs
leads_of facets n p earlier [] h = record { simplices = []; leads = tt; apart = tt; new = tt }
leads_of facets n p earlier (z ∷ zs) h =
    let rest = leads_of facets n p (z ∷ earlier) zs h.1 in
    record {
      simplices = h.0.simplex ∷ rest.simplices;
      leads = (h.0.least, rest.leads);
      apart = (λ m. (each_among (λ (t : List ℕ). Each (λ y. IsLeastSimplex facets n p y t → ⊥) (z ∷ earlier)) h.0.simplex rest.simplices rest.new m).0 h.0.least, rest.apart);
      new = (h.0.new, each_map (λ t g. g.1) rest.simplices rest.new);
    }

-- leads of members are pivots
lead_pivots : (facets : List (List ℕ)) (n p : ℕ) (M : Cochain → Type 0) (zs : List Cochain) (ts : List (List ℕ)) → Each M zs → AllZip (IsLeastSimplex facets n p) zs ts → Each (IsPivot p (IsSimplex facets n) Precedes M) ts
lead_pivots facets n p M [] [] m h = tt
lead_pivots facets n p M (z ∷ zs) (t ∷ ts) m h = (record { vector = z; member = m.0; lead = h.0 }, lead_pivots facets n p M zs ts m.1 h.1)
lead_pivots facets n p M _ _ m h = absurd h

-- ---- the listed cochains

pub nowhere : (facets : List (List ℕ)) (n : ℕ) (y : Chain) → IsOnBelow facets n y → cochain_of y [] ≡ 0
nowhere facets n [] h = refl
nowhere facets n (t ∷ y) h =
    let e : unit_cochain t.1 [] ≡ 0 = unit_away t.1 [] (λ q. absurd (let s = h.0.simplex.size in let l : length t.1 ≡ 0 = ap length q in omega (arith, s, l))) in
    let r = nowhere facets n y h.1 in
    rw e (omega (arith, r))

are_coboundaries : (facets : List (List ℕ)) (n p : ℕ) (ys : List Chain) → Each (IsOnBelow facets n) ys → Each (IsCoboundary facets n p) (coboundaries_of p ys)
are_coboundaries facets n p [] h = tt
are_coboundaries facets n p (y ∷ ys) h =
    (record { below = cochain_of y; nothing = nowhere facets n y h.0; same = record { at = λ s on. Congruent_refl (coboundary p (cochain_of y) s) } }, are_coboundaries facets n p ys h.1)

module _ (facets : List (List ℕ)) (p : ℕ) (field : IsField p) (ascending : Each IsAscending facets) (count : ℕ) (below classes : ℕ → List Chain) (h : IsListedWell facets p count below classes) where
  coboundaries_at : (n : ℕ) → HasDifferentCoboundaries facets n p (below n)
  coboundaries_at n =
      elim (cases_lt n count) [
        | inl b ↦ h.coboundaries n b
        | inr b ↦ subst (HasDifferentCoboundaries facets n p) (sym (h.nothing n b)) (record { degrees = tt; least = tt })
      ]

  bound_leads : (n : ℕ) → Leads facets n p [] (coboundaries_of p (below n))
  bound_leads n = leads_of facets n p [] (coboundaries_of p (below n)) (coboundaries_at n).least

  bound_pivots : (n : ℕ) → Each (IsCoboundaryPivot facets n p) (bound_leads n).simplices
  bound_pivots n =
      lead_pivots facets n p (IsCoboundary facets n p) (coboundaries_of p (below n)) (bound_leads n).simplices
      (are_coboundaries facets n p (below n) (coboundaries_at n).degrees) (bound_leads n).leads

  class_leads : (n : ℕ) → n < count → Leads facets n p (coboundaries_of p (below n)) (map cochain_of (classes n))
  class_leads n inside = leads_of facets n p (coboundaries_of p (below n)) (map cochain_of (classes n)) (h.new n inside)

  class_cocycles : (n : ℕ) → n < count → Each (IsCocycle facets n p) (map cochain_of (classes n))
  class_cocycles n inside = each_of_map (IsCocycle facets n p) cochain_of (classes n) (each_map (λ z g. g.1) (classes n) (h.cocycles n inside))

  -- no class leads where a coboundary does
  class_new : (n : ℕ) (inside : n < count) → Each (λ t. Among t (bound_leads n).simplices → ⊥) (class_leads n inside).simplices
  class_new n inside =
      each_map
      (λ t none m.
      let f = zip_among (IsLeastSimplex facets n p) (coboundaries_of p (below n)) (bound_leads n).simplices t (bound_leads n).leads m in
      each_among (λ (y : Cochain). IsLeastSimplex facets n p y t → ⊥) f.0 (coboundaries_of p (below n)) none f.1 f.2)
      (class_leads n inside).simplices (class_leads n inside).new

  both : (n : ℕ) → n < count → List (List ℕ)
  both n inside = (bound_leads n).simplices ++ (class_leads n inside).simplices

  both_apart : (n : ℕ) (inside : n < count) → IsApart (both n inside)
  unfolding both
  both_apart n inside = apart_append (bound_leads n).simplices (class_leads n inside).simplices (bound_leads n).apart (class_leads n inside).apart (class_new n inside)

  both_pivots : (n : ℕ) (inside : n < count) → Each (IsCocyclePivot facets n p) (both n inside)
  unfolding both
  both_pivots n inside =
      each_append (IsCocyclePivot facets n p) (bound_leads n).simplices (class_leads n inside).simplices
      (each_map (λ t (b : IsCoboundaryPivot facets n p t). record { vector = b.vector; member = bounds_close facets n p field.large b.vector b.member; lead = b.lead }) (bound_leads n).simplices (bound_pivots n))
      (lead_pivots facets n p (IsCocycle facets n p) (map cochain_of (classes n)) (class_leads n inside).simplices (class_cocycles n inside) (class_leads n inside).leads)

  both_counted : (n : ℕ) (inside : n < count) → simplex_count facets n ≤ length (both n inside) + length (bound_leads (n + 1)).simplices
  unfolding both
  both_counted n inside =
      let c = h.counts n inside in
      let a = length_alike (IsLeastSimplex facets n p) (coboundaries_of p (below n)) (bound_leads n).simplices (bound_leads n).leads in
      let b = length_alike (IsLeastSimplex facets n p) (map cochain_of (classes n)) (class_leads n inside).simplices (class_leads n inside).leads in
      let d = length_alike (IsLeastSimplex facets (n + 1) p) (coboundaries_of p (below (n + 1))) (bound_leads (n + 1)).simplices (bound_leads (n + 1)).leads in
      let i = length-map (below n) (λ (y : Chain). coboundary p (cochain_of y)) in
      let j = length-map (classes n) cochain_of in
      let k = length-map (below (n + 1)) (λ (y : Chain). coboundary p (cochain_of y)) in
      let l = length-append (bound_leads n).simplices (class_leads n inside).simplices in
      omega (arith, a, b, c, d, i, j, k, l)

  -- the listed coboundaries lead at all pivots of the coboundaries
  all_bounds : (n : ℕ) → n < count → (s : List ℕ) → IsCoboundaryPivot facets n p s → Among s (bound_leads n).simplices
  all_bounds zero inside s q = absurd (no_bounds facets p s q)
  all_bounds (suc n) inside s q =
      let e : n + 1 ≡ suc n = omega arith in
      let P : ℕ → Type 0 = λ m. IsCoboundaryPivot facets m p s → Among s (bound_leads m).simplices in
      let here : n < count = omega arith in
      subst P e (all_coboundary_pivots facets n p field ascending (both n here) (bound_leads (n + 1)).simplices (both_apart n here) (bound_leads (n + 1)).apart (both_pivots n here) (bound_pivots (n + 1)) (both_counted n here) s) q

  pub listed_basis : (n : ℕ) → n < count → IsCohomologyBasis facets n p (map cochain_of (classes n))
  unfolding both
  listed_basis n inside =
      complementary_basis facets n p field ascending (map cochain_of (classes n)) (class_leads n inside).simplices
      (record {
        members = class_cocycles n inside;
        leads = (class_leads n inside).leads;
        apart = (class_leads n inside).apart;
        free = each_map (λ t none q. none (all_bounds n inside t q)) (class_leads n inside).simplices (class_new n inside);
        whole = λ s q.
            elim (in_append s (bound_leads n).simplices (class_leads n inside).simplices
            (all_cocycle_pivots facets n p field ascending (both n inside) (bound_leads (n + 1)).simplices (both_apart n inside) (bound_leads (n + 1)).apart (both_pivots n inside) (bound_pivots (n + 1)) (both_counted n inside) s q)) [
              | inl m ↦ inl (each_among (IsCoboundaryPivot facets n p) s (bound_leads n).simplices (bound_pivots n) m)
              | inr m ↦ inr m
            ];
      })
