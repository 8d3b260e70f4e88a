-- Coordinates of cochains that agree, and of columns.
use Rattle.std.proofs.{Common.{◌≡◌, ℕ, suc, ◌+◌, ◌*◌, ◌<◌, inl, inr, List, [], ◌∷◌, map, length, get_or, arith, refl, sym, ap, subst, ◌∙◌}, lemmas.Bool.cases_lt, lemmas.List.length-map}
use Rattle.linear_law.{specs.Names.{negated, Each, combination}, proofs.Names.{Congruent_add, Congruent_from, Congruent_of, Congruent_refl, Congruent_sym, Congruent_trans, add-negated}}
use Rattle.simplicial_law.{specs.Names.{AgreesOnSimplices, Chain, Cochain, HasCoordinates, IsCoboundary, IsCocycle, IsCohomologyBasis, AreCanonicalBases, cochain_of, IsSimplex}, proofs.Names.{bounds_close, coboundaries, cocycles}}
use Rattle.report_law.{specs.Names.{Classes, classes_in, cochains_in}, proofs.Lists.get_or-past}

pub agrees-sym : {facets : List (List ℕ)} {n p : ℕ} {a b : Cochain} → AgreesOnSimplices facets n p a b → AgreesOnSimplices facets n p b a
agrees-sym h = record { at = λ s on. Congruent_sym (h.at s on) }

pub agrees-trans : {facets : List (List ℕ)} {n p : ℕ} {a b c : Cochain} → AgreesOnSimplices facets n p a b → AgreesOnSimplices facets n p b c → AgreesOnSimplices facets n p a c
agrees-trans h k = record { at = λ s on. Congruent_trans (h.at s on) (k.at s on) }

pub coordinates-alike : (facets : List (List ℕ)) (n p : ℕ) → 1 < p → (us : List Cochain) (v w : Cochain) (cs : List ℕ) → AgreesOnSimplices facets n p v w → HasCoordinates facets n p us w cs → HasCoordinates facets n p us v cs
coordinates-alike facets n p large us v w cs e h = record {
  count = h.count;
  small = h.small;
  rest = (coboundaries facets n p large).alike (λ s. v s + negated p (combination cs us s)) (λ s. w s + negated p (combination cs us s))
      (record { at = λ s on. Congruent_add (e.at s on) (Congruent_refl (negated p (combination cs us s))) }) h.rest;
}

pub no-items : {X : Type 0} (xs : List X) → length xs ≡ 0 → xs ≡ []
no-items [] h = refl
no-items (x ∷ xs) h = absurd (omega (arith, h))

-- where there are no classes, a cocycle has no coordinates
pub no-coordinates : (facets : List (List ℕ)) (n p : ℕ) (z : Cochain) → IsCohomologyBasis facets n p [] → IsCocycle facets n p z → HasCoordinates facets n p [] z []
no-coordinates facets n p z basis closed =
    let c = basis.coordinates z closed in
    subst (λ (cs : List ℕ). HasCoordinates facets n p [] z cs) (no-items c.0 c.1.count) c.1

-- a degree without simplices has the basis without classes
pub empty-basis : (facets : List (List ℕ)) (n p : ℕ) → ((s : List ℕ) → IsSimplex facets n s → ⊥) → IsCohomologyBasis facets n p []
empty-basis facets n p none = record {
  cocycles = tt;
  coordinates = λ z closed. (
    [],
    record { count = refl; small = tt; rest = record { below = λ s. 0; nothing = refl; same = record { at = λ s on. absurd (none s on) } } },
  );
  only = λ z cs ds closed h k. no-items cs h.count ∙ sym (no-items ds k.count);
}

-- ---- coordinates for a basis

module _ (facets : List (List ℕ)) (n p : ℕ) (large : 1 < p) where
  combination-closed : (cs : List ℕ) (zs : List Cochain) → Each (IsCocycle facets n p) zs → IsCocycle facets n p (combination cs zs)
  combination-closed [] zs h = (cocycles facets n p large).zero_in
  combination-closed (c ∷ cs) [] h = (cocycles facets n p large).zero_in
  combination-closed (c ∷ cs) (z ∷ zs) h =
      let m = cocycles facets n p large in
      m.alike (combination (c ∷ cs) (z ∷ zs)) (λ s. combination cs zs s + c * z s) (record { at = λ s on. Congruent_of (omega arith) })
      (m.plus c (combination cs zs) z (combination-closed cs zs h.1) h.0)

  -- what has coordinates for cocycles is a cocycle
  pub coordinates-closed : (zs : List Cochain) (z : Cochain) (cs : List ℕ) → Each (IsCocycle facets n p) zs → HasCoordinates facets n p zs z cs → IsCocycle facets n p z
  coordinates-closed zs z cs closed h =
      let m = cocycles facets n p large in
      let b : Cochain = λ s. z s + negated p (combination cs zs s) in
      m.alike z (λ s. b s + 1 * combination cs zs s)
      (record { at = λ s on. Congruent_from (Congruent_sym (add-negated p (combination cs zs s) large)) (omega arith) })
      (m.plus 1 b (combination cs zs) (bounds_close facets n p large b h.rest) (combination-closed cs zs closed))

  pub once : (zs : List Cochain) → IsCohomologyBasis facets n p zs → (z : Cochain) (cs ds : List ℕ) → HasCoordinates facets n p zs z cs → HasCoordinates facets n p zs z ds → cs ≡ ds
  once zs basis z cs ds h k = basis.only z cs ds (coordinates-closed zs z cs basis.cocycles h) h k

  zeros : List Cochain → List ℕ
  zeros zs = map (λ z. 0) zs

  zeros-combined : (zs : List Cochain) (s : List ℕ) → combination (zeros zs) zs s ≡ 0
  unfolding zeros
  zeros-combined [] s = refl
  zeros-combined (z ∷ zs) s = let e = zeros-combined zs s in omega (arith, e)

  zeros-small : (zs : List Cochain) → Each (λ c. c < p) (zeros zs)
  unfolding zeros
  zeros-small [] = tt
  zeros-small (z ∷ zs) = (omega (arith, large), zeros-small zs)

  zeros-at : (zs : List Cochain) (i : ℕ) → get_or (zeros zs) i 0 ≡ 0
  unfolding zeros
  zeros-at (z ∷ zs) (suc i) = zeros-at zs i
  zeros-at _ _ = refl

  -- the coordinates of a coboundary are 0
  pub bound-coordinates : (zs : List Cochain) → IsCohomologyBasis facets n p zs → (d : Cochain) (cs : List ℕ) → IsCoboundary facets n p d → HasCoordinates facets n p zs d cs → (i : ℕ) → get_or cs i 0 ≡ 0
  unfolding zeros
  bound-coordinates zs basis d cs bound h i =
      let none : HasCoordinates facets n p zs d (zeros zs) = record {
        count = length-map zs (λ (z : Cochain). 0);
        small = zeros-small zs;
        rest = (coboundaries facets n p large).alike (λ s. d s + negated p (combination (zeros zs) zs s)) d
            (record { at = λ s on. Congruent_of (let e = zeros-combined zs s in ap (λ (k : ℕ). d s + negated p k) e ∙ omega arith) }) bound;
      } in
      ap (λ (ds : List ℕ). get_or ds i 0) (once zs basis d cs (zeros zs) h none) ∙ zeros-at zs i

  -- coefficients 0 combine to 0
  pub no-combination : (cs : List ℕ) (zs : List Cochain) (s : List ℕ) → ((i : ℕ) → get_or cs i 0 ≡ 0) → combination cs zs s ≡ 0
  no-combination (c ∷ cs) (z ∷ zs) s h =
      let e = no-combination cs zs s (λ i. h (suc i)) in
      let first : c ≡ 0 = h 0 in
      ap (λ (k : ℕ). k * z s + combination cs zs s) first ∙ omega (arith, e)
  no-combination _ _ s h = refl

  -- what has coordinates 0 is a coboundary
  pub bound-of-zeros : (zs : List Cochain) (d : Cochain) (cs : List ℕ) → HasCoordinates facets n p zs d cs → ((i : ℕ) → get_or cs i 0 ≡ 0) → IsCoboundary facets n p d
  bound-of-zeros zs d cs h none =
      (coboundaries facets n p large).alike d (λ s. d s + negated p (combination cs zs s))
      (record { at = λ s on. Congruent_of (let e = no-combination cs zs s none in sym (ap (λ (k : ℕ). d s + negated p k) e ∙ omega arith)) }) h.rest

-- ---- the bases of all degrees

-- a basis in each degree, also past the dimension
pub record AreBases (facets : List (List ℕ)) (p : ℕ) (classes : Classes) : Type 0 where
  pub whole : (n : ℕ) (s : List ℕ) → IsSimplex facets n s → n < length classes
  pub basis : (n : ℕ) → IsCohomologyBasis facets n p (cochains_in classes n)

pub bases-from : (facets : List (List ℕ)) (p : ℕ) (classes : Classes) → ((n : ℕ) (s : List ℕ) → IsSimplex facets n s → n < length classes)
    → ((n : ℕ) → n < length classes → IsCohomologyBasis facets n p (cochains_in classes n)) → AreBases facets p classes
bases-from facets p classes whole each = record {
  whole = whole;
  basis = λ n. elim (cases_lt n (length classes)) [
    | inl l ↦ each n l
    | inr g ↦
        let past : classes_in classes n ≡ [] = get_or-past classes n [] (omega (arith, g)) in
        subst (λ (ts : List Chain). IsCohomologyBasis facets n p (map cochain_of ts)) (sym past)
        (empty-basis facets n p (λ s on. let w = whole n s on in absurd (omega (arith, w, g))))
  ];
}

pub canonical-are : (facets : List (List ℕ)) (p : ℕ) (classes : Classes) → AreCanonicalBases facets p classes → AreBases facets p classes
canonical-are facets p classes are = bases-from facets p classes are.whole (λ n l. (are.each n l).basis)
