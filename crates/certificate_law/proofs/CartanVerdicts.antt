-- Cartan verdicts: a coboundary pairs to zero with each cycle.
use Rattle.std.proofs.Common.{◌≡◌, ℕ, zero, suc, ◌+◌, ◌*◌, refl, sym, ◌∙◌, ap₂, subst, arith, inl, inr, List, [], ◌∷◌, map, get_or, flat_map}
use Rattle.linear_law.{specs.Names.{Congruent, negated, sum_over, Each, IsAscending, unit_sum_from}, proofs.Names.{Congruent_add, Congruent_from, Congruent_of, Congruent_refl, Congruent_scale, Congruent_trans, each_append, each_map, sum_append, sum_map, unit_sum-values}}
use Rattle.simplicial_law.{specs.Names.{IsSimplex, AgreesOnSimplices, Chain, Cochain, IsCoboundary, alternating_chain, boundary, coboundary, faces, pairing, unit_cochain, cochain_of, cochain_at, of_degree}, specs.ListedSimplices.simplices, proofs.Names.{face_simplex, listed_simplices_law, unit_away, unit_here}}
use Rattle.steenrod_law.proofs.ClassLaws.{coboundary-vertex}
use Rattle.report_law.specs.Names.{boundary_coefficient}
use Rattle.certificate_law.{specs.Names.IsOn, proofs.PivotCounts.simplex_same_or_not}

-- ---- pairing

pub pairing_alike : (facets : List (List ℕ)) (n p : ℕ) (f g : Cochain) (chain : Chain) → AgreesOnSimplices facets n p f g → IsOn facets n chain → Congruent p (pairing f chain) (pairing g chain)
pairing_alike facets n p f g [] h on = Congruent_refl 0
pairing_alike facets n p f g (t ∷ ts) h on = Congruent_add (Congruent_scale t.0 (h.at t.1 on.0)) (pairing_alike facets n p f g ts h on.1)

-- the boundary of a chain: the terms of the boundaries of its simplices, times their coefficients
abbrev chain_boundary : ℕ → Chain → Chain
chain_boundary p chain = flat_map (λ t. map (λ u. (t.0 * u.0, u.1)) (boundary p t.1)) chain

-- the coboundary on a chain is the value on its boundary
pairing_coboundary : (p : ℕ) (y : Cochain) (chain : Chain) → pairing (coboundary p y) chain ≡ pairing y (chain_boundary p chain)
pairing_coboundary p y [] = refl
pairing_coboundary p y (t ∷ ts) =
    let scaled : pairing y (map (λ (u : ℕ × List ℕ). (t.0 * u.0, u.1)) (boundary p t.1)) ≡ t.0 * coboundary p y t.1 =
    sum_map (λ (u : ℕ × List ℕ). u.0 * y u.1) (λ u. (t.0 * u.0, u.1)) (boundary p t.1)
    ∙ go (boundary p t.1) in
    ap₂ (λ (a b : ℕ). a + b) (sym scaled) (pairing_coboundary p y ts)
    ∙ sym (sum_append (λ (u : ℕ × List ℕ). u.0 * y u.1) (map (λ (u : ℕ × List ℕ). (t.0 * u.0, u.1)) (boundary p t.1)) (chain_boundary p ts))
  where
    go : (us : Chain) → sum_over (λ (u : ℕ × List ℕ). (t.0 * u.0) * y u.1) us ≡ t.0 * sum_over (λ (u : ℕ × List ℕ). u.0 * y u.1) us
    go [] = omega arith
    go (u ∷ us) = let h = go us in omega (arith, h)

-- ---- a chain whose coefficient is zero at each simplex pairs to zero

unit_turned : (s t : List ℕ) → unit_cochain s t ≡ unit_cochain t s
unit_turned s t =
    elim (simplex_same_or_not s t) [
      | inl e ↦ subst (λ (u : List ℕ). unit_cochain s u ≡ unit_cochain u s) e refl
      | inr n ↦ unit_away s t n ∙ sym (unit_away t s (λ e. n (sym e)))
    ]

unit_pairing : (s : List ℕ) (chain : Chain) → pairing (unit_cochain s) chain ≡ cochain_of chain s
unit_pairing s [] = refl
unit_pairing s (t ∷ ts) = ap₂ (λ (a b : ℕ). t.0 * a + b) (unit_turned s t.1) (unit_pairing s ts)

pairing_sum : (f g : Cochain) (c : ℕ) (chain : Chain) → pairing (λ s. c * f s + g s) chain ≡ c * pairing f chain + pairing g chain
pairing_sum f g c [] = omega arith
pairing_sum f g c (t ∷ ts) = let h = pairing_sum f g c ts in omega (arith, h)

pairing_none : (ts : Chain) → pairing (λ s. 0) ts ≡ 0
pairing_none [] = refl
pairing_none (t ∷ ts) = let e = pairing_none ts in omega (arith, e)

pairing_units : (p k : ℕ) (ss : List (List ℕ)) (v : ℕ → ℕ) (chain : Chain) → Each (λ s. Congruent p (cochain_of chain s) 0) ss → Congruent p (pairing (unit_sum_from unit_cochain k ss v) chain) 0
pairing_units p k [] v chain h = Congruent_of (pairing_none chain)
pairing_units p k (s ∷ ss) v chain h =
    Congruent_trans (Congruent_of (pairing_sum (unit_cochain s) (unit_sum_from unit_cochain (suc k) ss v) (v k) chain))
    (Congruent_from (Congruent_add (Congruent_scale (v k) (Congruent_trans (Congruent_of (unit_pairing s chain)) h.0)) (pairing_units p (suc k) ss v chain h.1)) (omega arith))

module _ (facets : List (List ℕ)) (ascending : Each IsAscending facets) (p : ℕ) where
  nothing_pairs : (n : ℕ) (y : Cochain) (chain : Chain) → IsOn facets n chain → ((s : List ℕ) → IsSimplex facets n s → Congruent p (cochain_of chain s) 0) → Congruent p (pairing y chain) 0
  nothing_pairs n y chain on nothing =
      let here : List (List ℕ) = of_degree n (simplices facets) in
      let all = listed_simplices_law.of_one_degree facets n ascending in
      Congruent_trans (pairing_alike facets n p y (cochain_at here (λ k. y (get_or here k []))) chain (unit_sum-values unit_cochain unit_here unit_away (IsSimplex facets n) here all [] p y) on)
      (pairing_units p 0 here (λ k. y (get_or here k [])) chain (each_map (λ s on. nothing s on) here all.sound))

  alternating_on : (n s : ℕ) (ts : List (List ℕ)) → Each (IsSimplex facets n) ts → IsOn facets n (alternating_chain p s ts)
  alternating_on n s [] h = tt
  alternating_on n s (t ∷ ts) h = (h.0, alternating_on n (negated p s) ts h.1)

  times_on : (n c : ℕ) (us : Chain) → IsOn facets n us → IsOn facets n (map (λ (u : ℕ × List ℕ). (c * u.0, u.1)) us)
  times_on n c [] h = tt
  times_on n c (u ∷ us) h = (h.0, times_on n c us h.1)

  boundary_on : (n : ℕ) (chain : Chain) → IsOn facets (n + 1) chain → IsOn facets n (chain_boundary p chain)
  boundary_on n [] h = tt
  boundary_on n (t ∷ ts) h =
      each_append (λ (u : ℕ × List ℕ). IsSimplex facets n u.1) (map (λ (u : ℕ × List ℕ). (t.0 * u.0, u.1)) (boundary p t.1)) (chain_boundary p ts)
      (times_on n t.0 (boundary p t.1) (alternating_on n 1 (faces t.1) (face_simplex facets n t.1 h.0))) (boundary_on n ts h.1)

  -- a coboundary pairs to zero with a cycle
  pub coboundary_pairs : (n : ℕ) (d : Cochain) (cycle : Chain) → IsOn facets n cycle → ((m : ℕ) (s : List ℕ) → IsSimplex facets m s → Congruent p (boundary_coefficient p cycle s) 0) → IsCoboundary facets n p d → Congruent p (pairing d cycle) 0
  coboundary_pairs zero d cycle is closed b = Congruent_trans (pairing_alike facets 0 p d (λ s. 0) cycle (record { at = λ s on. Congruent_trans (b.same.at s on) (Congruent_of (coboundary-vertex p b.below s (let l = on.size in omega (arith, l)) b.nothing)) }) is) (Congruent_of (pairing_none cycle))
  coboundary_pairs (suc n) d cycle is closed b =
      let e : suc n ≡ n + 1 = omega arith in
      Congruent_trans (pairing_alike facets (suc n) p d (coboundary p b.below) cycle b.same is)
      (Congruent_trans (Congruent_of (pairing_coboundary p b.below cycle))
      (nothing_pairs n b.below (chain_boundary p cycle) (boundary_on n cycle (subst (λ (m : ℕ). IsOn facets m cycle) e is))
      (λ s on. Congruent_trans (Congruent_of (sym (unit_pairing s (chain_boundary p cycle)) ∙ sym (pairing_coboundary p (unit_cochain s) cycle))) (closed n s on))))
