-- Signs and factorials, modulo p.
use Rattle.std.specs.Prelude.{ℕ, ◌+◌, ◌-◌, ◌*◌, ◌/◌, ◌^◌, zero, suc}
use Rattle.linear_law.specs.Names.{Congruent, negated}

-- (-1)^e
abbrev pub sign_power : ℕ → ℕ → ℕ
sign_power p e = negated p 1 ^ e

abbrev pub factorial : ℕ → ℕ
factorial zero = 1
factorial (suc n) = suc n * factorial n

-- (p - 1) / 2
abbrev pub half : ℕ → ℕ
half p = (p - 1) / 2

-- c is (-1)^(s + m*q(q-1)/2) * (m!)^(-q) for m = (p - 1)/2: its product with (m!)^q is the sign
pub record IsScale (p q s c : ℕ) : Type 0 where
  pub product : Congruent p (c * factorial (half p) ^ q) (sign_power p (s + half p * (q * (q - 1) / 2)))
