-- The steps of the product for a binomial coefficient.
use Rattle.std.proofs.Common.{◌≡◌, ℕ, zero, suc, ◌+◌, ◌-◌, ◌*◌, ◌/◌, ◌≤◌, ◌<◌, sym, ◌∙◌, arith}
use Rattle.std.proofs.Math.Nat.{mul-div_cancel_left}
use Rattle.table_reduction_law.proofs.BinomialLemmas.{absorb}
use Rattle.table_reduction_law.specs.Names.{binomial}

-- the next coefficient, over what the code multiplies and divides by
pub step : (rest i count times by : ℕ) → count ≡ binomial (rest + i) i → times ≡ rest + i + 1 → by ≡ i + 1 → count * times / by ≡ binomial (rest + (i + 1)) (i + 1)
step rest i count times by e t b =
    let m : ℕ = binomial (suc (rest + i)) (suc i) in
    let a : binomial (rest + i) i * (rest + i + 1) ≡ suc i * m = omega (arith, absorb (rest + i) i) in
    let s : i + 1 ≡ suc i = omega arith in
    let n : suc (rest + i) ≡ rest + (i + 1) = omega arith in
    let c : suc i * m / suc i ≡ m = mul-div_cancel_left m (omega arith) in
    (λ j. e j * t j / b j) ∙ (λ j. a j / s j) ∙ c ∙ (λ j. binomial (n j) (sym s j))

grows_by : (more n k top most : ℕ) → top ≡ more + n → most ≡ more + k → binomial n k ≤ binomial top most
grows_by zero n k top most e f =
    let g : binomial top most ≡ binomial n k = (let a : top ≡ n = omega arith in let b : most ≡ k = omega arith in λ j. binomial (a j) (b j)) in
    omega arith
grows_by (suc more) n k zero most e f = absurd (omega arith)
grows_by (suc more) n k (suc top) zero e f = absurd (omega arith)
grows_by (suc more) n k (suc top) (suc most) e f = omega (arith, grows_by more n k top most (omega arith) (omega arith))

-- a coefficient on the way is no greater than the last
pub below : (n k rest i : ℕ) → rest ≡ n - k → k ≤ n → i < k → binomial (rest + (i + 1)) (i + 1) ≤ binomial n k
below n k rest i r h l = grows_by (k - (i + 1)) (rest + (i + 1)) (i + 1) n k (omega arith) (omega arith)
