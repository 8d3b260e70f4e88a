-- Binomial coefficients.
use Rattle.std.proofs.Common.{◌≡◌, ℕ, zero, suc, ◌*◌, refl, arith}
use Rattle.table_reduction_law.specs.Names.{binomial}

pub absorb : (n k : ℕ) → suc k * binomial (suc n) (suc k) ≡ suc n * binomial n k
absorb zero zero = refl
absorb zero (suc k) = omega arith
absorb (suc n) zero = let h = absorb n zero in omega arith
absorb (suc n) (suc k) = let h = absorb n (suc k) in let g = absorb n k in omega arith
