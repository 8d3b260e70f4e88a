-- The difference of the turn and the identity, and the sum of the powers of the turn: what they give
-- one after the other, and with a boundary.
use Rattle.std.proofs.{Common.{◌≡◌, ℕ, zero, suc, List, sym, ap, ◌∙◌, arith, ℤ, pos, ◌-ℤ◌, ◌*ℤ◌}, lemmas.Int.ints}
use Rattle.signed_sum.{specs.Names.{value_at, difference, power_sum, after_turns}, proofs.Ring.{mul-add, mul-sub, mul_assoc, mul_comm, one-mul}, proofs.SumLemmas.{value_at-nothing, value_at-sub, value_at-sum}}

-- phi at the element after n turns, with the sign
abbrev pub at_turn : {X : Type 0} → (X → X × ℤ) → ℕ → (X → ℤ) → X → ℤ
at_turn turn n phi x = let p = after_turns turn n x in p.1 *ℤ phi p.0

pub value_at-difference : {X : Type 0} (turn : X → X × ℤ) (phi : X → ℤ) (x : X) → value_at phi (difference turn x) ≡ (turn x).1 *ℤ phi (turn x).0 -ℤ phi x
value_at-difference turn phi x = omega (arith, ints)

-- one more turn
turn_more : {X : Type 0} (turn : X → X × ℤ) (n : ℕ) (phi : X → ℤ) (x : X) → (after_turns turn n x).1 *ℤ ((turn (after_turns turn n x).0).1 *ℤ phi (turn (after_turns turn n x).0).0) ≡ at_turn turn (suc n) phi x
turn_more turn n phi x = sym (mul_assoc (after_turns turn n x).1 (turn (after_turns turn n x).0).1 (phi (turn (after_turns turn n x).0).0))

-- one more turn, made first
turn_before : {X : Type 0} (turn : X → X × ℤ) (n : ℕ) (phi : X → ℤ) (x : X) → (turn x).1 *ℤ at_turn turn n phi (turn x).0 ≡ at_turn turn (suc n) phi x
turn_before turn zero phi x = ap (λ v. (turn x).1 *ℤ v) (one-mul (phi (turn x).0)) ∙ ap (λ v. v *ℤ phi (turn x).0) (sym (one-mul (turn x).1))
turn_before turn (suc n) phi x =
    ap (λ v. (turn x).1 *ℤ v) (sym (turn_more turn n phi (turn x).0))
    ∙ turn_before turn n (λ y. (turn y).1 *ℤ phi (turn y).0) x
    ∙ turn_more turn (suc n) phi x

-- the differences of the powers: all but the ends cancel
difference-powers : {X : Type 0} (turn : X → X × ℤ) (phi : X → ℤ) (n : ℕ) (x : X) → value_at (λ y. value_at phi (difference turn y)) (power_sum turn n x) ≡ at_turn turn n phi x -ℤ phi x
difference-powers turn phi zero x = omega (arith, ints)
difference-powers turn phi (suc n) x =
    omega (
      arith,
      ints,
      difference-powers turn phi n x,
      turn_more turn n phi x,
      ap (λ v. (after_turns turn n x).1 *ℤ v) (value_at-difference turn phi (after_turns turn n x).0),
      mul-sub (after_turns turn n x).1 ((turn (after_turns turn n x).0).1 *ℤ phi (turn (after_turns turn n x).0).0) (phi (after_turns turn n x).0),
    )

-- the powers of the difference: all but the ends cancel
powers-difference : {X : Type 0} (turn : X → X × ℤ) (phi : X → ℤ) (n : ℕ) (x : X) → (turn x).1 *ℤ value_at phi (power_sum turn n (turn x).0) -ℤ value_at phi (power_sum turn n x) ≡ at_turn turn n phi x -ℤ phi x
powers-difference turn phi zero x = omega (arith, ints, mul_comm (turn x).1 (pos 0))
powers-difference turn phi (suc n) x =
    omega (
      arith,
      ints,
      powers-difference turn phi n x,
      turn_before turn n phi x,
      mul-add (turn x).1 (at_turn turn n phi (turn x).0) (value_at phi (power_sum turn n (turn x).0)),
    )

ends : {X : Type 0} (turn : X → X × ℤ) (phi : X → ℤ) (n : ℕ) (x : X) → after_turns turn n x ≡ (x, pos 1) → at_turn turn n phi x ≡ phi x
ends turn phi n x r = ap (λ (p : _ × ℤ). p.1 *ℤ phi p.0) r ∙ one-mul (phi x)

-- the difference of the sum of the powers is zero, where n turns are the identity
pub turn_norm : {X : Type 0} (turn : X → X × ℤ) (phi : X → ℤ) (n : ℕ) (x : X) → after_turns turn n x ≡ (x, pos 1) → value_at (λ y. value_at phi (difference turn y)) (power_sum turn n x) ≡ pos 0
turn_norm turn phi n x r = omega (arith, ints, difference-powers turn phi n x, ends turn phi n x r)

-- the sum of the powers of the difference is zero, where n turns are the identity
pub norm_turn : {X : Type 0} (turn : X → X × ℤ) (phi : X → ℤ) (n : ℕ) (x : X) → after_turns turn n x ≡ (x, pos 1) → value_at (λ y. value_at phi (power_sum turn n y)) (difference turn x) ≡ pos 0
norm_turn turn phi n x r =
    omega (arith, ints, powers-difference turn phi n x, ends turn phi n x r, value_at-difference turn (λ y. value_at phi (power_sum turn n y)) x)

-- A boundary that commutes with the turn of each element of a kind that the turn keeps
pub record CommutesWithTurn {X : Type 0} (turn : X → X × ℤ) (boundary : X → List (X × ℤ)) (Kind : X → Type 0) : Type 0 where
  pub kept : (x : X) → Kind x → Kind (turn x).0
  pub commutes : (phi : X → ℤ) (x : X) → Kind x → (turn x).1 *ℤ value_at phi (boundary (turn x).0) ≡ value_at (λ y. (turn y).1 *ℤ phi (turn y).0) (boundary x)

-- the boundary commutes with the difference
pub boundary-difference : {X : Type 0} (turn : X → X × ℤ) (boundary : X → List (X × ℤ)) (Kind : X → Type 0) → CommutesWithTurn turn boundary Kind → (phi : X → ℤ) (x : X) → Kind x →
    value_at (λ y. value_at phi (boundary y)) (difference turn x) ≡ value_at (λ y. value_at phi (difference turn y)) (boundary x)
boundary-difference {X = X} turn boundary Kind c phi x k =
    let f : X → ℤ = λ y. (turn y).1 *ℤ phi (turn y).0 in
    let same : value_at (λ y. value_at phi (difference turn y)) (boundary x) ≡ value_at (λ y. f y -ℤ phi y) (boundary x) =
    λ i. value_at (λ y. value_at-difference turn phi y i) (boundary x) in
    omega (arith, ints, value_at-difference turn (λ y. value_at phi (boundary y)) x, c.commutes phi x k, same, value_at-sub f phi (boundary x))

kept_on : {X : Type 0} (turn : X → X × ℤ) (boundary : X → List (X × ℤ)) (Kind : X → Type 0) → CommutesWithTurn turn boundary Kind → (n : ℕ) (x : X) → Kind x → Kind (after_turns turn n x).0
kept_on turn boundary Kind c zero x k = k
kept_on turn boundary Kind c (suc n) x k = c.kept (after_turns turn n x).0 (kept_on turn boundary Kind c n x k)

-- the boundary after n turns
boundary-turned : {X : Type 0} (turn : X → X × ℤ) (boundary : X → List (X × ℤ)) (Kind : X → Type 0) → CommutesWithTurn turn boundary Kind → (phi : X → ℤ) (n : ℕ) (x : X) → Kind x →
    at_turn turn n (λ y. value_at phi (boundary y)) x ≡ value_at (λ y. at_turn turn n phi y) (boundary x)
boundary-turned turn boundary Kind c phi zero x k =
    let e : value_at (λ y. at_turn turn 0 phi y) (boundary x) ≡ value_at phi (boundary x) = λ i. value_at (λ y. one-mul (phi y) i) (boundary x) in
    one-mul (value_at phi (boundary x)) ∙ sym e
boundary-turned {X = X} turn boundary Kind c phi (suc n) x k =
    let p = after_turns turn n x in
    let f : X → ℤ = λ y. (turn y).1 *ℤ phi (turn y).0 in
    sym (turn_more turn n (λ y. value_at phi (boundary y)) x)
    ∙ ap (λ v. p.1 *ℤ v) (c.commutes phi p.0 (kept_on turn boundary Kind c n x k))
    ∙ boundary-turned turn boundary Kind c f n x k
    ∙ (λ i. value_at (λ y. turn_more turn n phi y i) (boundary x))

-- the boundary commutes with the sum of the powers
pub boundary-powers : {X : Type 0} (turn : X → X × ℤ) (boundary : X → List (X × ℤ)) (Kind : X → Type 0) → CommutesWithTurn turn boundary Kind → (phi : X → ℤ) (n : ℕ) (x : X) → Kind x →
    value_at (λ y. value_at phi (boundary y)) (power_sum turn n x) ≡ value_at (λ y. value_at phi (power_sum turn n y)) (boundary x)
boundary-powers turn boundary Kind c phi zero x k = sym (value_at-nothing (boundary x))
boundary-powers turn boundary Kind c phi (suc n) x k =
    omega (
      arith,
      ints,
      boundary-turned turn boundary Kind c phi n x k,
      boundary-powers turn boundary Kind c phi n x k,
      value_at-sum (λ y. at_turn turn n phi y) (λ y. value_at phi (power_sum turn n y)) (boundary x),
    )
