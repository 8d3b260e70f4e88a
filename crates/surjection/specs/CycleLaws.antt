-- The laws of the turn of surjections, which the impls cite.
use Rattle.std.{proofs.Common.{◌≡◌, ℕ, zero, suc, ◌-◌, ◌≤◌, ◌==◌, Bool, List, map, refl, sym, ap, ◌∙◌, inl, arith, subst, IsTrue}, specs.Prelude.{ℤ, pos, ◌*ℤ◌, All}, proofs.lemmas.Bool.{eqb-true, eq-eqb}, proofs.lemmas.List.length-map, proofs.lemmas.List.Elements.All-weaker}
use Rattle.signed_sum.{specs.Names.{cycle, cycle_power, turned, value_at, IsSign, after_turns}, proofs.Names.one-mul}
use Rattle.surjection_law.{specs.Names.{surjection_boundary, IsOnto, IsSurjection, arity, surjection_degree}, proofs.SurjectionTerms.{arity-boundary, arity-positive}}
use Rattle.table_reduction_law.{specs.Names.turned_values, proofs.Permutations.{after-turned, moves-cycle, uncycle}, proofs.PowerPairs.power-turn}
use Rattle.operad_law.{specs.Permutations.composed, proofs.PermLemmas.length-cycle_power}
use Rattle.surjection.specs.ActionLaws.{InRange, IsSurjection-map, arity-map, boundary-map, identity-fixes, in_range, map-composed}

arity_is : (p : ℕ) (u : List ℕ) → IsTrue (arity u == p) → arity u ≡ p
arity_is p u f = eqb-true (arity u) p f

pub turn_valid : (p : ℕ) (u : List ℕ) → IsSurjection u → IsTrue (arity u == p) → IsSurjection (turned_values p u).0
turn_valid p u s f = let e = arity_is p u f in IsSurjection-map (cycle p) (uncycle p) p (moves-cycle p) u s e

turn_arity : (p : ℕ) (u : List ℕ) → IsSurjection u → arity u ≡ p → arity (map (cycle p) u) ≡ p
turn_arity p u s e =
    arity-map (cycle p) (uncycle p) p (moves-cycle p) u (subst (λ (k : ℕ). IsOnto k u) e s.onto) (omega (arith, arity-positive u s))

pub turn_fits : (p : ℕ) (u : List ℕ) → IsSurjection u → IsTrue (arity u == p) → IsTrue (arity (turned_values p u).0 == p)
turn_fits p u s f = eq-eqb (arity (map (cycle p) u)) p (turn_arity p u s (arity_is p u f))

pub turn_degree : (p : ℕ) (u : List ℕ) → IsSurjection u → IsTrue (arity u == p) → surjection_degree (turned_values p u).0 ≡ surjection_degree u
turn_degree p u s f =
    let e = arity_is p u f in
    let a : arity (map (cycle p) u) ≡ arity u = turn_arity p u s e ∙ sym e in
    λ i. length-map u (cycle p) i - a i

pub turn_sign : (p : ℕ) (u : List ℕ) → IsSurjection u → IsTrue (arity u == p) → IsSign (turned_values p u).1
turn_sign p u s f = inl refl

pub boundary_fits : (p : ℕ) (u : List ℕ) → IsSurjection u → IsTrue (arity u == p) → All (λ t. IsTrue (arity t.0 == p)) (surjection_boundary u)
boundary_fits p u s f =
    All-weaker (λ t. arity t.0 ≡ arity u) (λ t. IsTrue (arity t.0 == p))
    (λ t a. eq-eqb (arity t.0) p (a ∙ arity_is p u f)) (surjection_boundary u) (arity-boundary u s)

-- ---- p turns are the identity
turned-composed : (p n : ℕ) (u : List ℕ) → InRange p u → turned p n u ≡ composed (cycle_power p n) u
turned-composed p zero u r = sym (identity-fixes p u r)
turned-composed p (suc n) u r = ap (map (cycle p)) (turned-composed p n u r) ∙ map-composed (cycle p) (cycle_power p n) u (rw (length-cycle_power p n) r)

pub turned_round : (p : ℕ) (u : List ℕ) → IsSurjection u → IsTrue (arity u == p) → after_turns (turned_values p) p u ≡ (u, pos 1)
turned_round p u s f =
    let r : InRange p u = subst (λ (k : ℕ). InRange k u) (arity_is p u f) (in_range u s) in
    let back : turned p p u ≡ u = turned-composed p p u r ∙ ap (λ t. composed t u) (power-turn p) ∙ identity-fixes p u r in
    after-turned p p u ∙ (λ i. (back i, pos 1))

pub boundary_turn : (p : ℕ) (phi : List ℕ → ℤ) (u : List ℕ) → IsSurjection u → IsTrue (arity u == p) →
    (turned_values p u).1 *ℤ value_at phi (surjection_boundary (turned_values p u).0) ≡ value_at (λ w. (turned_values p w).1 *ℤ phi (turned_values p w).0) (surjection_boundary u)
boundary_turn p phi u s f =
    let e = arity_is p u f in
    let r : InRange p u = subst (λ (k : ℕ). InRange k u) e (in_range u s) in
    let same : value_at (λ w. pos 1 *ℤ phi (map (cycle p) w)) (surjection_boundary u) ≡ value_at (λ w. phi (map (cycle p) w)) (surjection_boundary u) =
    λ i. value_at (λ w. one-mul (phi (map (cycle p) w)) i) (surjection_boundary u) in
    one-mul (value_at phi (surjection_boundary (map (cycle p) u))) ∙ boundary-map (cycle p) (uncycle p) p (moves-cycle p) phi u r ∙ sym same

-- the turn of a surjection by its own arity
pub own_turn : (u : List ℕ) → IsSurjection u → IsSurjection (map (cycle (arity u)) u)
own_turn u s = turn_valid (arity u) u s (eq-eqb (arity u) (arity u) refl)
