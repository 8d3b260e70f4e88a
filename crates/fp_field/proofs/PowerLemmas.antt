-- One step of the power by squares.
use Rattle.std.proofs.Common.{◌≡◌, ℕ, ◌+◌, ◌*◌, ◌/◌, ◌%◌, ◌^◌, ◌≢◌, sym, ◌∙◌, ap, arith, pow-add}
use Rattle.std.proofs.Math.Nat.{pow-suc, pow-zero}
use Rattle.std.proofs.lemmas.Nat.{pow-mod, mul-mod_second, mul-mod_first, mul-pow}

one_exponent : (b : ℕ) → b ^ 1 ≡ b
one_exponent b = pow-suc b 0 ∙ ap (λ x. x * b) (pow-zero b) ∙ omega arith

-- a power of a square
square_power : (p b h : ℕ) → ((b * b) % p) ^ h % p ≡ b ^ (h + h) % p
square_power p b h = pow-mod (b * b) h p ∙ ap (λ x. x % p) (mul-pow b b h ∙ sym (pow-add b h h))

pub even_step : (p power b left : ℕ) → left % 2 ≢ 1 → (power * ((b * b) % p) ^ (left / 2)) % p ≡ (power * b ^ left) % p
even_step p power b left n =
    let e : left / 2 + left / 2 ≡ left = omega arith in
    sym (mul-mod_second power (((b * b) % p) ^ (left / 2)) p) ∙ ap (λ x. (power * x) % p) (square_power p b (left / 2))
    ∙ mul-mod_second power (b ^ (left / 2 + left / 2)) p ∙ ap (λ x. (power * b ^ x) % p) e

pub odd_step : (p power b left : ℕ) → left % 2 ≡ 1 → ((power * b) % p * ((b * b) % p) ^ (left / 2)) % p ≡ (power * b ^ left) % p
odd_step p power b left n =
    let h = left / 2 in
    let e : 1 + (h + h) ≡ left = omega arith in
    let one : b ^ (1 + (h + h)) ≡ b * b ^ (h + h) = pow-add b 1 (h + h) ∙ ap (λ x. x * b ^ (h + h)) (one_exponent b) in let two : power * b * b ^ (h + h) ≡ power * b ^ (1 + (h + h)) = rw one (omega arith) in
    mul-mod_first (power * b) (((b * b) % p) ^ h) p ∙ sym (mul-mod_second (power * b) (((b * b) % p) ^ h) p) ∙ ap (λ x. (power * b * x) % p) (square_power p b h)
    ∙ mul-mod_second (power * b) (b ^ (h + h)) p ∙ ap (λ x. x % p) two ∙ ap (λ x. (power * b ^ x) % p) e
