-- What the proofs use of a prime, from inverses modulo p.
use Rattle.std.proofs.{Common.{◌≡◌, ℕ, ◌+◌, ◌*◌, ◌/◌, ◌%◌, ◌<◌, ◌≤◌, ◌⊎◌, inl, inr, sym, ◌∙◌, ap, arith, ℤ, pos, ◌*ℤ◌}, Math.IntN.{*ℤ-zero, *ℤ_comm, pos-*ℤ-pos}}
use native.Mathlib.Decide.{ℕ_discrete}
use native.Mathlib.Nat.{mod-eq_of_lt}
use Rattle.linear_law.specs.Names.{IsField}
use Rattle.signed_sum.proofs.Names.{mul_assoc, one-mul}
use Rattle.simplicial_law.{proofs.Names.{integral_congruence_law, CongruentInt-scale, CongruentInt-times, CongruentInt_of, CongruentInt_refl, CongruentInt_sym, CongruentInt_trans}, specs.Names.CongruentInt}
use Rattle.steenrod_law.proofs.Forms.{IsPrime}

pub prime_of_field : (p : ℕ) → IsField p → IsPrime p
prime_of_field p field = record { two = (let l = field.large in omega arith); parity = parity; cancel = cancel }
  where
    large : 1 < p
    large = field.large

    -- 2 has no inverse modulo a greater even number
    odd : 2 < p → p % 2 ≡ 0 → ⊥
    odd l e =
        let m : 2 % p ≡ 2 = mod-eq_of_lt l in
        let i = field.inverse 2 (λ z. absurd (omega (arith, m, z))) in
        let r : 1 % p ≡ 1 = mod-eq_of_lt large in
        let h : (2 * i.0) % p ≡ 1 = i.1.same ∙ r in
        let q : ℕ = p / 2 in
        let t : p ≡ 2 * q = omega arith in
        let k : p * ((2 * i.0) / p) + (2 * i.0) % p ≡ 2 * i.0 = omega arith in
        let w : p * ((2 * i.0) / p) ≡ (2 * q) * ((2 * i.0) / p) = ap (λ j. j * ((2 * i.0) / p)) t in
        omega arith

    parity : (p ≡ 2) ⊎ (p % 2 ≡ 1)
    parity = elim (ℕ_discrete p 2) [
      | yes e ↦ inl e
      | no n ↦ inr (elim (ℕ_discrete (p % 2) 0) [ yes z ↦ absurd (odd (omega (arith, large, n)) z) | no z ↦ omega (arith, z) ])
    ]

    cancel : (a : ℕ) (z : ℤ) → 1 ≤ a → a < p → CongruentInt p (pos a *ℤ z) (pos 0) → CongruentInt p z (pos 0)
    cancel a z h l k =
        let m : a % p ≡ a = mod-eq_of_lt l in
        let i = field.inverse a (λ e. absurd (omega (arith, h, m, e))) in
        let b : ℕ = i.0 in
        let e : pos b *ℤ (pos a *ℤ z) ≡ pos (a * b) *ℤ z = sym (mul_assoc (pos b) (pos a) z) ∙ ap (λ y. y *ℤ z) (*ℤ_comm (pos b) (pos a) ∙ pos-*ℤ-pos a b) in
        CongruentInt_trans (CongruentInt_of (sym (one-mul z)))
        (CongruentInt_trans (CongruentInt-times (CongruentInt_sym (integral_congruence_law.whole p (a * b) 1 i.1)) (CongruentInt_refl z))
        (CongruentInt_trans (CongruentInt_of (sym e))
        (CongruentInt_trans (CongruentInt-scale (pos b) k) (CongruentInt_of (*ℤ-zero (pos b))))))
