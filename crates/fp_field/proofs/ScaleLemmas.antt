-- The constant of the odd power operations.
use Rattle.std.proofs.Common.{◌≡◌, ℕ, ◌*◌, ◌%◌, ◌-◌, ◌^◌, ◌<◌, ◌≢◌, zero, suc, sym, ◌∙◌, ap, arith, IsTrue}
use Rattle.std.proofs.Math.Nat.{pow-suc, pow-zero, mod-eq_of_lt}
use Rattle.std.proofs.lemmas.Nat.{pow-mod, mul-pow}
use native.Mathlib.Nat.{mod-mod}
use Rattle.linear_law.specs.Names.{Congruent, IsField, negated}
use Rattle.linear_law.proofs.Names.{Congruent_refl, Congruent_of, Congruent_sym, Congruent_trans, Congruent_mul, Congruent_scale, Congruent_mod}
use Rattle.fp_field.specs.Served.{served}
use Rattle.fp_field.specs.Element.{sign_power, factorial, half}
use Rattle.fp_field.proofs.ServedLemmas.{for_served}

pub Congruent_power : {p a b : ℕ} (k : ℕ) → Congruent p a b → Congruent p (a ^ k) (b ^ k)
Congruent_power {p} {a} {b} k h = record { same = sym (pow-mod a k p) ∙ ap (λ x. x ^ k % p) h.same ∙ pow-mod b k p }

one_power : (k : ℕ) → 1 ^ k ≡ 1
one_power zero = pow-zero 1
one_power (suc k) = pow-suc 1 k ∙ ap (λ x. x * 1) (one_power k)

-- a power of a unit is no multiple of p
pub power_nonzero : (p a k : ℕ) → IsField p → a % p ≢ 0 → a ^ k % p ≢ 0
power_nonzero p a k f n e =
    let t = f.inverse a n in
    let one : Congruent p ((a * t.0) ^ k) 1 = Congruent_trans (Congruent_power k t.1) (Congruent_of (one_power k)) in
    let none_small : 0 % p ≡ 0 = mod-eq_of_lt (omega (arith, f.large)) in
    let none : Congruent p (a ^ k) 0 = record { same = e ∙ sym (none_small) } in
    let product : Congruent p (a ^ k * t.0 ^ k) 0 = Congruent_trans (Congruent_mul none (Congruent_refl (t.0 ^ k))) (Congruent_of (omega arith)) in
    let different : ◌≡◌ {A = ℕ} 1 0 = sym (mod-eq_of_lt f.large) ∙ sym one.same ∙ ap (λ x. x % p) (mul-pow a t.0 k) ∙ product.same ∙ none_small in
    absurd (omega arith)

-- (p - 1)/2 factorial is no multiple of p
pub half_factorial : (p : ℕ) → IsTrue (served p) → factorial (half p) % p ≢ 0
half_factorial p h = for_served (λ n. factorial (half n) % n ≢ 0) p (λ e. absurd (omega arith)) (λ e. absurd (omega arith)) (λ e. absurd (omega arith)) h

pub scale_product : (p q e f size sign r : ℕ) → 1 < p → r ≡ (sign * size) % p → sign ≡ ((negated p (1 % p) % p) ^ e) % p → ((f % p) ^ q % p * size) % p ≡ 1
    → Congruent p (r * f ^ q) (sign_power p e)
scale_product p q e f size sign r large er es eu =
    let power : Congruent p ((f % p) ^ q % p) (f ^ q) = record { same = mod-mod ((f % p) ^ q) p ∙ pow-mod f q p } in
    let unit : Congruent p (f ^ q * size) 1 = Congruent_trans (Congruent_mul (Congruent_sym power) (Congruent_refl size)) (record { same = eu ∙ sym (mod-eq_of_lt large) }) in
    let minus : Congruent p (negated p (1 % p) % p) (negated p 1) = Congruent_trans (Congruent_mod p (negated p (1 % p))) (Congruent_scale (p - 1) (Congruent_mod p 1)) in
    let signs : Congruent p sign (sign_power p e) = Congruent_trans (Congruent_of es) (Congruent_trans (Congruent_mod p _) (Congruent_power e minus)) in
    let start : Congruent p (r * f ^ q) (sign * size * f ^ q) = Congruent_mul (Congruent_trans (Congruent_of er) (Congruent_mod p (sign * size))) (Congruent_refl (f ^ q)) in
    Congruent_trans start (Congruent_trans (Congruent_of (omega arith)) (Congruent_trans (Congruent_mul signs unit) (Congruent_of (omega arith))))
