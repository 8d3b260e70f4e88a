-- Quotients of whole numbers by p.
use Rattle.std.{proofs.Common.{◌≡◌, ℕ, zero, suc, ◌+◌, ◌*◌, ◌<◌, sym, ◌∙◌, ap, arith, ℤ, pos, negsuc, ◌+ℤ◌, ◌*ℤ◌, neg_ℤ}, specs.Int.int_div_euclid, proofs.Math.IntN.pos-*ℤ-pos, proofs.Math.Nat.mul-div_cancel, proofs.lemmas.Nat.div-mul-add, proofs.lemmas.Int.ints}
use Rattle.signed_sum.proofs.Names.{mul_assoc, mul_comm, neg-mul}
use Rattle.simplicial_law.specs.Names.{CongruentInt}

pub mul_swap : (a b c : ℤ) → a *ℤ (b *ℤ c) ≡ b *ℤ (a *ℤ c)
mul_swap a b c = sym (mul_assoc a b c) ∙ ap (λ m. m *ℤ c) (mul_comm a b) ∙ mul_assoc b a c

-- the quotient of a multiple of p
pub quotient : (p : ℕ) (k : ℤ) → 0 < p → int_div_euclid (pos p *ℤ k) (pos p) ≡ k
quotient zero k h = absurd (omega (arith, h))
quotient (suc q) (pos n) h = ap (λ z. int_div_euclid z (pos (suc q))) (mul_comm (pos (suc q)) (pos n) ∙ pos-*ℤ-pos n (suc q)) ∙ ap pos (mul-div_cancel n h)
quotient (suc q) (negsuc n) h =
    let e : suc n * suc q ≡ suc (n * suc q + q) = omega arith in
    let m : pos (suc q) *ℤ negsuc n ≡ negsuc (n * suc q + q) = mul_comm (pos (suc q)) (negsuc n) ∙ neg-mul (pos (suc n)) (pos (suc q)) ∙ ap neg_ℤ (pos-*ℤ-pos (suc n) (suc q) ∙ ap pos e) in
    ap (λ z. int_div_euclid z (pos (suc q))) m ∙ ap negsuc (div-mul-add n (suc q) q (omega arith))

-- p may be cancelled
pub cancelled : (p : ℕ) (a b : ℤ) → 0 < p → pos p *ℤ a ≡ pos p *ℤ b → a ≡ b
cancelled p a b h e = sym (quotient p a h) ∙ ap (λ z. int_div_euclid z (pos p)) e ∙ quotient p b h

-- what is 0 modulo p is p times its quotient
pub divided : (p : ℕ) (a : ℤ) → 0 < p → CongruentInt p a (pos 0) → a ≡ pos p *ℤ int_div_euclid a (pos p)
divided p a h c =
    let e : a ≡ pos p *ℤ c.multiple = c.same ∙ plain (c.multiple *ℤ pos p) ∙ mul_comm c.multiple (pos p) in
    e ∙ ap (λ k. pos p *ℤ k) (sym (ap (λ z. int_div_euclid z (pos p)) e ∙ quotient p c.multiple h))
  where
    plain : (z : ℤ) → pos 0 +ℤ z ≡ z
    plain z = omega (arith, ints)
