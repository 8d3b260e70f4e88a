-- The boundary of a composition of surjections.
use Rattle.std.proofs.{Common.{◌≡◌, ℕ, zero, suc, ◌+◌, ◌-◌, ◌<◌, ◌≤◌, inl, inr, ◌||◌, Bool, true, false, cond, ◌==◌, List, [], ◌∷◌, length, map, refl, sym, ◌∙◌, ap, arith, ℤ, pos, ◌+ℤ◌, ◌*ℤ◌, nat_lt, eq-eqb, ne_eqb}, lemmas.Bool.{cases_Bool, cases_eq}, lemmas.Bool.Decides.nat_tests}
use Rattle.interval_cut_law.specs.Names.{rising_lists}
use Rattle.linear_law.specs.Names.{Each}
use Rattle.signed_sum.{proofs.Names.{less-no, occurs-cons, occurs-self, occurs-tail, fun_ext, restricted-gone, total-map, value_at-kept_terms, less-yes, range-in, range-out}, specs.Names.{if_zero, is_degenerate, less, occurs, signed, normalized, total, value_at}}
use Rattle.composition_law.{specs.Surjections.{composition, cut_term, cuts_at, grown, lifted, numbered, spliced, with_values}, proofs.EqualNeighbours.{composed-inner, composed-outer}, proofs.Renaming.{boundary-moved, caesuras-map, occurs-renamed}, proofs.SplicedWalks.{AreInner, AreValues, IsValue, cut-walks, numbers_of, signed_value, walks-signed_value}, proofs.WalkLaw.compose-law, proofs.Walks.{composed, walks}, specs.Laws.SurjectionLeibniz}
use Rattle.surjection_law.{proofs.BoundaryPlaces.{normalized-boundary, value_at-surjection_boundary_places, without_place-cong}, proofs.SurjectionTerms.multiplicity-at_least, specs.Names.{caesura_count, surjection_boundary, without_place, IsOnto, arity, multiplicity}}

-- the values in a walk: 0 for k, and those of the term for the others
abbrev pub renamed : ℕ → ℕ → ℕ → ℕ
renamed k s x = cond (x == k) 0 (grown k s x)

abbrev pub renamed_back : ℕ → ℕ → ℕ → ℕ
renamed_back k s zero = k
renamed_back k s (suc z) = cond (nat_lt k (suc z)) (suc z - (s - 1)) (suc z)

abbrev pub lifted_back : ℕ → ℕ → ℕ
lifted_back k z = z - (k - 1)

-- 0 at the values of v in a term, and 1 at those of u
abbrev pub kind : ℕ → ℕ → ℕ → ℕ
kind k s z = if_zero (less z k) (if_zero (less z (k + s)) 1 0) 1

-- x is k, below it, or above it
pub data IsPlaced (k s x : ℕ) : Type 0 where
  here : x ≡ k → renamed k s x ≡ 0 → grown k s x ≡ k → IsPlaced k s x
  low : x < k → renamed k s x ≡ x → grown k s x ≡ x → IsPlaced k s x
  high : k < x → renamed k s x ≡ x + (s - 1) → grown k s x ≡ x + (s - 1) → IsPlaced k s x

pub grown-low : (k s x : ℕ) → x ≤ k → grown k s x ≡ x
grown-low k s x h = let e : nat_lt k x ≡ false = grind (arith, nat_tests) in ap (λ b. cond b (x + (s - 1)) x) e

pub grown-high : (k s x : ℕ) → k < x → grown k s x ≡ x + (s - 1)
grown-high k s x h = let e : nat_lt k x ≡ true = grind (arith, nat_tests) in ap (λ b. cond b (x + (s - 1)) x) e

pub renamed-k : (k s x : ℕ) → x ≡ k → renamed k s x ≡ 0
renamed-k k s x e = ap (λ b. cond b 0 (grown k s x)) (eq-eqb x k e)

pub renamed-other : (k s x : ℕ) → (x ≡ k → ⊥) → renamed k s x ≡ grown k s x
renamed-other k s x n = ap (λ b. cond b 0 (grown k s x)) (ne_eqb x k n)

placed : (k s x : ℕ) → IsPlaced k s x
placed k s x = elim (cases_eq x k) [
  | inl e ↦ here e (renamed-k k s x e) (grown-low k s x (omega (arith, e)) ∙ e)
  | inr n ↦ elim (cases_Bool (nat_lt k x)) [
    | inl l ↦ let h : k < x = grind (arith, l) in high h (renamed-other k s x n ∙ grown-high k s x h) (grown-high k s x h)
    | inr l ↦ let h : x < k = (let q : x ≤ k = grind (arith, l) in omega (arith, q, n)) in low h (renamed-other k s x n ∙ grown-low k s x (omega (arith, h))) (grown-low k s x (omega (arith, h)))
  ]
]

module _ (k r s : ℕ) (a : 1 ≤ k) (b : k ≤ r) (c : 1 ≤ s) where
  renamed_back-low : (z : ℕ) → 1 ≤ z → z ≤ k → renamed_back k s z ≡ z
  renamed_back-low zero l h = absurd (omega (arith, l))
  renamed_back-low (suc z) l h = let e : nat_lt k (suc z) ≡ false = grind (arith, nat_tests) in ap (λ b. cond b (suc z - (s - 1)) (suc z)) e

  renamed_back-high : (z : ℕ) → k < z → renamed_back k s z ≡ z - (s - 1)
  renamed_back-high zero h = absurd (omega (arith, h))
  renamed_back-high (suc z) h = let e : nat_lt k (suc z) ≡ true = grind (arith, nat_tests) in ap (λ b. cond b (suc z - (s - 1)) (suc z)) e

  pub there_back : (x : ℕ) → 1 ≤ x → renamed_back k s (renamed k s x) ≡ x
  there_back x l = elim (placed k s x) [
    | here e t f ↦ ap (renamed_back k s) t ∙ sym e
    | low h t f ↦ ap (renamed_back k s) t ∙ renamed_back-low x l (omega (arith, h))
    | high h t f ↦ ap (renamed_back k s) t ∙ renamed_back-high (x + (s - 1)) (omega (arith, h)) ∙ omega arith
  ]

  pub kind-low : (z : ℕ) → z < k → kind k s z ≡ 1
  kind-low z h = ap (λ j. if_zero j (if_zero (less z (k + s)) 1 0) 1) (less-yes z k h)

  pub kind-high : (z : ℕ) → k + s ≤ z → kind k s z ≡ 1
  kind-high z h = (λ i. if_zero (less-no z k (omega (arith, h)) i) (if_zero (less-no z (k + s) h i) 1 0) 1)

  pub kind-in : (z : ℕ) → k ≤ z → z < k + s → kind k s z ≡ 0
  kind-in z g h = (λ i. if_zero (less-no z k g i) (if_zero (less-yes z (k + s) h i) 1 0) 1)

  kind-renamed : (x : ℕ) → 1 ≤ x → kind k s (renamed k s x) ≡ 1
  kind-renamed x l = elim (placed k s x) [
    | here e t f ↦ ap (kind k s) t ∙ kind-low 0 (omega (arith, a))
    | low h t f ↦ ap (kind k s) t ∙ kind-low x h
    | high h t f ↦ ap (kind k s) t ∙ kind-high (x + (s - 1)) (omega (arith, h, c))
  ]

  is-value : (x : ℕ) → 1 ≤ x → IsValue k (grown k s) (lifted k) (renamed k s) (renamed_back k s) (lifted_back k) (kind k s) (kind-low 0 (omega (arith, a))) x
  is-value zero l = absurd (omega (arith, l))
  is-value (suc x) l = elim (placed k s (suc x)) [
    | here e t f ↦ inl (e, f, t)
    | low h t f ↦ inr (x, ((λ q. omega (arith, q, h)), f, t, (λ q. omega (arith, q, h))))
    | high h t f ↦ inr (x + (s - 1), ((λ q. omega (arith, q, h)), f ∙ omega arith, t ∙ omega arith, (λ q. omega (arith, q, h))))
  ]

  -- the values of a list onto 1 to n
  pub within : (n : ℕ) (u : List ℕ) → IsOnto n u → Each (λ x. (1 ≤ x) × (x ≤ n)) u
  within n u o = go u (λ x q. range-out x 1 n (sym (o x) ∙ q))
    where
      go : (u : List ℕ) → ((x : ℕ) → occurs x u ≡ 1 → (1 ≤ x) × (x < 1 + n)) → Each (λ x. (1 ≤ x) × (x ≤ n)) u
      go [] h = tt
      go (x ∷ u) h = (let q = h x (occurs-self x u) in (q.0, omega (arith, q.1)), go u (λ y q. h y (occurs-tail y x u q)))

  pub values-of : (u : List ℕ) → Each (λ x. (1 ≤ x) × (x ≤ r)) u → AreValues k (grown k s) (lifted k) (renamed k s) (renamed_back k s) (lifted_back k) (kind k s) (kind-low 0 (omega (arith, a))) u
  values-of [] h = (tt, tt, tt)
  values-of (x ∷ u) h =
      let q = values-of u h.1 in
      ((is-value x h.0.0, q.0), (there_back x h.0.0, q.1), (kind-renamed x h.0.0, q.2))

  pub inner-of : (v : List ℕ) → Each (λ y. (1 ≤ y) × (y ≤ s)) v → AreInner k (grown k s) (lifted k) (renamed k s) (renamed_back k s) (lifted_back k) (kind k s) (kind-low 0 (omega (arith, a))) v
  inner-of [] h = (tt, tt)
  inner-of (y ∷ v) h =
      let q = inner-of v h.1 in
      let l = h.0.0 in
      let m = h.0.1 in
      ((omega arith, q.0), (kind-in (lifted k y) (omega (arith, l)) (omega (arith, l, m, a)), q.1))

  pub k-occurs : (u : List ℕ) → IsOnto r u → occurs k u ≡ 1
  k-occurs u o = o k ∙ range-in k 1 r a (omega (arith, b))

  pub zero-occurs : (u : List ℕ) → IsOnto r u → occurs 0 (map (renamed k s) u) ≡ 1
  zero-occurs u o =
      let h = values-of u (within r u o) in
      ap (λ j. occurs j (map (renamed k s) u)) (sym (renamed-k k s k refl)) ∙ occurs-renamed (renamed k s) (renamed_back k s) k u (there_back k a) h.1 ∙ k-occurs u o

  arity-of : (v : List ℕ) → IsOnto s v → arity v ≡ s
  arity-of v o = let p = most v (within s v o) in let q = least s v (o s ∙ range-in s 1 s c (omega arith)) in omega (arith, p, q)
    where
      most : (v : List ℕ) → Each (λ y. (1 ≤ y) × (y ≤ s)) v → arity v ≤ s
      most [] h = omega arith
      most (y ∷ v) h = let q = most v h.1 in let l = h.0.1 in omega (arith, q, l)

      least : (x : ℕ) (v : List ℕ) → occurs x v ≡ 1 → x ≤ arity v
      least x [] h = absurd (omega (arith, h))
      least x (y ∷ v) h = elim (occurs-cons x y v) [ inl e ↦ omega (arith, e) | inr e ↦ let q = least x v (sym e ∙ h) in omega (arith, q) ]

  -- the composition as a sum over walks
  pub composition-walks : (u v : List ℕ) (phi : List ℕ → ℤ) → IsOnto r u → IsOnto s v → value_at phi (composition k u v) ≡ composed (map (renamed k s) u) (map (lifted k) v) (normalized phi)
  composition-walks u [] phi o q = absurd (let z = q 1 in let y = range-in 1 1 s (omega arith) (omega (arith, c)) in omega (arith, z, y))
  composition-walks u (y ∷ v) phi o q =
      let g : List ℕ → ℤ = normalized phi in
      let m = multiplicity-at_least k u (k-occurs u o) in
      let n : length (y ∷ v) - 1 ≡ length v = omega arith in
      let hu = values-of u (within r u o) in
      let hv = inner-of (y ∷ v) (within s (y ∷ v) q) in
      let cu : caesura_count u ≡ caesura_count (map (renamed k s) u) = sym (caesuras-map (renamed k s) (renamed_back k s) u hu.1) in
      let cv : caesura_count (y ∷ v) ≡ caesura_count (map (lifted k) (y ∷ v)) = sym (caesuras-map (lifted k) (lifted_back k) (y ∷ v) hv.0) in
      let F : List (ℕ × List ℕ) → ℤ = signed_value (caesura_count u) (caesura_count (y ∷ v)) g in
      let cut_value : ℕ → List ℕ → ℤ = λ j p. F (spliced k 0 (with_values (lifted k) (numbered (caesura_count u) (y ∷ v))) (with_values (grown k j) (numbered 0 u)) p) in
      value_at-kept_terms is_degenerate phi (map (cut_term k u (y ∷ v)) (cuts_at k u (y ∷ v)))
      ∙ total-map (λ t. t.1 *ℤ g t.0) (cut_term k u (y ∷ v)) (cuts_at k u (y ∷ v))
      ∙ (λ i. total (cut_value (arity-of (y ∷ v) q i)) (rising_lists 0 (n i) (multiplicity k u - 1)))
      ∙ cut-walks k (grown k s) (lifted k) (renamed k s) (renamed_back k s) (lifted_back k) (kind k s) (kind-low 0 (omega (arith, a))) u v 0 (caesura_count u) y (length v) (multiplicity k u - 1) 0 F hu hv refl (omega (arith, m))
      ∙ (λ i. walks (map (renamed k s) u) (map (lifted k) (y ∷ v)) (λ c. signed_value (cu i) (cv i) g (numbers_of 0 (cu i) c)))
      ∙ walks-signed_value (kind k s) (map (renamed k s) u) (map (lifted k) (y ∷ v)) g hu.2 hv.1 (zero-occurs u o)

  module _ (u v : List ℕ) (phi : List ℕ → ℤ) (o : IsOnto r u) (q : IsOnto s v) where
    abbrev g : List ℕ → ℤ
    g = normalized phi

    abbrev U : List ℕ
    U = map (renamed k s) u

    abbrev V : List ℕ
    V = map (lifted k) v

    normal : (w : List ℕ) → is_degenerate w ≡ true → g w ≡ pos 0
    normal w d = restricted-gone is_degenerate phi w d

    -- what is 0 at degenerate lists
    cut-off : (h : List ℕ → ℤ) (w : List ℕ) (z : ℤ) → h w ≡ z → (is_degenerate w ≡ true → z ≡ pos 0) → normalized h w ≡ z
    cut-off h w z e n = go (is_degenerate w) refl
      where
        go : (b : Bool) → is_degenerate w ≡ b → cond b (pos 0) (h w) ≡ z
        go true d = sym (n d)
        go false d = e

    pub degenerate-none : (is_degenerate u || is_degenerate v) ≡ true → value_at phi (composition k u v) ≡ pos 0
    degenerate-none d = composition-walks u v phi o q ∙ go (is_degenerate u) refl d
      where
        go : (b : Bool) → is_degenerate u ≡ b → (b || is_degenerate v) ≡ true → composed U V g ≡ pos 0
        go true e d = composed-outer (renamed k s) (lifted k) u v g normal e
        go false e d = composed-inner (renamed k s) (lifted k) u v g normal d

    outer-boundary : without_place [] U (λ x. composed x V g) ≡ value_at (λ x. value_at phi (composition k x v)) (surjection_boundary u)
    outer-boundary =
        let h = values-of u (within r u o) in
        boundary-moved (renamed k s) (renamed_back k s) u [] (λ x. composed x V g) tt h.1
        ∙ without_place-cong u [] (λ w. composed (map (renamed k s) w) V g) (normalized (λ x. value_at phi (composition k x v)))
        (λ w t. sym (cut-off (λ x. value_at phi (composition k x v)) w (composed (map (renamed k s) w) V g) (composition-walks w v phi (λ x. t x ∙ o x) q) (λ d. composed-outer (renamed k s) (lifted k) w v g normal d)))
        ∙ sym (value_at-surjection_boundary_places (λ x. value_at phi (composition k x v)) u)

    inner-boundary : without_place [] V (λ y. composed U y g) ≡ value_at (λ y. value_at phi (composition k u y)) (surjection_boundary v)
    inner-boundary =
        let h = inner-of v (within s v q) in
        boundary-moved (lifted k) (lifted_back k) v [] (λ y. composed U y g) tt h.0
        ∙ without_place-cong v [] (λ w. composed U (map (lifted k) w) g) (normalized (λ y. value_at phi (composition k u y)))
        (λ w t. sym (cut-off (λ y. value_at phi (composition k u y)) w (composed U (map (lifted k) w) g) (composition-walks u w phi o (λ x. t x ∙ q x)) (λ d. composed-inner (renamed k s) (lifted k) u w g normal d)))
        ∙ sym (value_at-surjection_boundary_places (λ y. value_at phi (composition k u y)) v)

    pub leibniz : value_at (λ w. value_at phi (surjection_boundary w)) (composition k u v)
        ≡ value_at (λ x. value_at phi (composition k x v)) (surjection_boundary u) +ℤ signed (caesura_count u) (value_at (λ y. value_at phi (composition k u y)) (surjection_boundary v))
    leibniz =
        let hu = values-of u (within r u o) in
        let hv = inner-of v (within s v q) in
        composition-walks u v (λ w. value_at phi (surjection_boundary w)) o q
        ∙ ap (composed U V) (fun_ext (normalized-boundary phi))
        ∙ compose-law g (kind k s) U V (zero-occurs u o) (kind-low 0 (omega (arith, a))) hu.2 hv.1
        ∙ (λ i. outer-boundary i +ℤ signed (caesuras-map (renamed k s) (renamed_back k s) u hu.1 i) (inner-boundary i))

pub surjection_leibniz : SurjectionLeibniz
surjection_leibniz = record {
  boundary = λ k r s u v phi a b c o q. leibniz k r s a b c u v phi o q;
  degenerate = λ k r s u v phi a b c o q d. degenerate-none k r s a b c u v phi o q d;
}
