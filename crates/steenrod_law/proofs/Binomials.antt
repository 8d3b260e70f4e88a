-- Differences and binomial coefficients modulo a prime.
use Rattle.std.proofs.{Common.{◌≡◌, ℕ, zero, suc, ◌+◌, ◌-◌, ◌<◌, refl, sym, ◌∙◌, ap, arith, ℤ, pos, ◌+ℤ◌, ◌*ℤ◌, neg_ℤ}, Math.IntN.{zero-*ℤ, suc_ℤ-*ℤ, *ℤ_comm}, lemmas.Int.ints}
use Rattle.signed_sum.proofs.Names.{add-mul, mul-add, mul-neg, neg-mul, one-mul}
use Rattle.simplicial_law.{proofs.Names.{CongruentInt-neg, CongruentInt-sum, CongruentInt-times, CongruentInt_from, CongruentInt_multiple, CongruentInt_of, CongruentInt_refl, CongruentInt_trans}, specs.Names.CongruentInt}
use Rattle.steenrod_law.proofs.Forms.{IsPrime}
use Rattle.table_reduction_law.proofs.{FormalSums.sum_below-first, PowerPairs.sum_below}

-- the n-th difference of a at 0
abbrev pub difference : ℕ → (ℕ → ℤ) → ℤ
difference zero a = a 0
difference (suc n) a = difference n (λ k. a (suc k)) +ℤ neg_ℤ (difference n a)

pub difference-sum : (n : ℕ) (f g : ℕ → ℤ) → difference n (λ k. f k +ℤ g k) ≡ difference n f +ℤ difference n g
difference-sum zero f g = refl
difference-sum (suc n) f g =
    let a = difference-sum n f g in
    let b = difference-sum n (λ k. f (suc k)) (λ k. g (suc k)) in
    omega (arith, ints)

-- the coefficient of a k in it: the binomial coefficient with the sign (-1)^(n-k)
abbrev coefficient : ℕ → ℕ → ℤ
coefficient zero zero = pos 1
coefficient zero (suc k) = pos 0
coefficient (suc n) zero = neg_ℤ (coefficient n 0)
coefficient (suc n) (suc k) = coefficient n k +ℤ neg_ℤ (coefficient n (suc k))

coefficient-over : (n e : ℕ) → coefficient n (suc (n + e)) ≡ pos 0
coefficient-over zero e = refl
coefficient-over (suc n) e =
    let q1 : suc n + e ≡ suc (n + e) = omega arith in
    let q2 : suc n + e ≡ n + suc e = omega arith in
    let a : coefficient n (suc n + e) ≡ pos 0 = ap (coefficient n) q1 ∙ coefficient-over n e in
    let b : coefficient n (suc (suc n + e)) ≡ pos 0 = ap (λ j. coefficient n (suc j)) q2 ∙ coefficient-over n (suc e) in
    omega (arith, ints)

coefficient-top : (n : ℕ) → coefficient n n ≡ pos 1
coefficient-top zero = refl
coefficient-top (suc n) =
    let a = coefficient-top n in
    let q : n + 0 ≡ n = omega arith in
    let b : coefficient n (suc n) ≡ pos 0 = ap (λ j. coefficient n (suc j)) (sym q) ∙ coefficient-over n 0 in
    omega (arith, ints)

absorb : (n k : ℕ) → pos (suc k) *ℤ coefficient (suc n) (suc k) ≡ pos (suc n) *ℤ coefficient n k
absorb zero zero = refl
absorb zero (suc k) = let a = mul-add (pos (suc (suc k))) (pos 0) (pos 0) in let b = *ℤ_comm (pos (suc (suc k))) (pos 0) in let c = *ℤ_comm (pos 1) (pos 0) in let d = zero-*ℤ (pos (suc (suc k))) in omega (arith, ints)
absorb (suc n) zero =
    let h = absorb n zero in
    let x : ℤ = coefficient (suc n) 1 in
    let a = one-mul (coefficient (suc n) 0 +ℤ neg_ℤ x) in
    let b = one-mul x in
    let c = suc_ℤ-*ℤ (pos (suc n)) (neg_ℤ (coefficient n 0)) in
    let d = mul-neg (pos (suc n)) (coefficient n 0) in
    omega (arith, ints)
absorb (suc n) (suc k) =
    let h = absorb n (suc k) in
    let g = absorb n k in
    let x : ℤ = coefficient (suc n) (suc k) in
    let y : ℤ = coefficient (suc n) (suc (suc k)) in
    let a = mul-add (pos (suc (suc k))) x (neg_ℤ y) in
    let b = mul-neg (pos (suc (suc k))) y in
    let c = suc_ℤ-*ℤ (pos (suc k)) x in
    let d = suc_ℤ-*ℤ (pos (suc n)) x in
    let e = mul-add (pos (suc n)) (coefficient n k) (neg_ℤ (coefficient n (suc k))) in
    let f = mul-neg (pos (suc n)) (coefficient n (suc k)) in
    omega (arith, ints)

-- the coefficients below a prime are 1, since the inner ones at the prime are multiples of it
coefficient-one : (n e k : ℕ) → IsPrime (suc n) → k + e ≡ n → CongruentInt (suc n) (coefficient n k) (pos 1)
coefficient-one n zero k prime q = let i : k ≡ n = omega arith in CongruentInt_of (ap (coefficient n) i ∙ coefficient-top n)
coefficient-one n (suc e) k prime q =
    let none = prime.cancel (suc k) (coefficient (suc n) (suc k)) (omega arith) (omega arith)
    (CongruentInt_trans (CongruentInt_of (absorb n k ∙ *ℤ_comm (pos (suc n)) (coefficient n k))) (CongruentInt_multiple (suc n) (coefficient n k))) in
    CongruentInt_from (CongruentInt-sum none (coefficient-one n e (suc k) prime (omega arith))) (omega (arith, ints))

sums : (n m : ℕ) (a : ℕ → ℤ) →
    sum_below m (λ k. coefficient (suc n) (suc k) *ℤ a (suc k)) +ℤ sum_below (suc m) (λ k. coefficient n k *ℤ a k) ≡ sum_below m (λ k. coefficient n k *ℤ a (suc k)) +ℤ (coefficient n 0 *ℤ a 0)
sums n zero a = omega (arith, ints)
sums n (suc m) a =
    let h = sums n m a in
    let x = add-mul (coefficient n m) (neg_ℤ (coefficient n (suc m))) (a (suc m)) in
    let y = neg-mul (coefficient n (suc m)) (a (suc m)) in
    omega (arith, ints)

difference-coefficients : (n : ℕ) (a : ℕ → ℤ) → difference n a ≡ sum_below (suc n) (λ k. coefficient n k *ℤ a k)
difference-coefficients zero a = let e = one-mul (a 0) in omega (arith, ints)
difference-coefficients (suc n) a =
    let h = difference-coefficients n (λ k. a (suc k)) in
    let g = difference-coefficients n a in
    let s = sums n (suc n) a in
    let f = sum_below-first (suc n) (λ k. coefficient (suc n) k *ℤ a k) in
    let m = neg-mul (coefficient n 0) (a 0) in
    let q : n + 0 ≡ n = omega arith in
    let o : coefficient n (suc n) *ℤ a (suc n) ≡ pos 0 *ℤ a (suc n) = ap (λ j. j *ℤ a (suc n)) (ap (λ j. coefficient n (suc j)) (sym q) ∙ coefficient-over n 0) in
    let z = zero-*ℤ (a (suc n)) in
    omega (arith, ints)

sum-alike : (p m : ℕ) (f g : ℕ → ℤ) → ((k : ℕ) → k < m → CongruentInt p (f k) (g k)) → CongruentInt p (sum_below m f) (sum_below m g)
sum-alike p zero f g h = CongruentInt_refl (pos 0)
sum-alike p (suc m) f g h = CongruentInt-sum (sum-alike p m f g (λ k l. h k (omega arith))) (h m (omega arith))

-- T^(p-1) is N
pub difference-prime : (n : ℕ) (a : ℕ → ℤ) → IsPrime (suc n) → CongruentInt (suc n) (difference n a) (sum_below (suc n) a)
difference-prime n a prime =
    CongruentInt_trans (CongruentInt_of (difference-coefficients n a))
    (sum-alike (suc n) (suc n) (λ k. coefficient n k *ℤ a k) a
    (λ k l. CongruentInt_trans (CongruentInt-times (coefficient-one n (n - k) k prime (omega arith)) (CongruentInt_refl (a k))) (CongruentInt_of (one-mul (a k)))))

-- and T^p takes a to the difference of two values
pub difference-whole : (p : ℕ) (a : ℕ → ℤ) → IsPrime p → CongruentInt p (difference p a) (a p +ℤ neg_ℤ (a 0))
difference-whole zero a prime = absurd (let t = prime.two in omega arith)
difference-whole (suc n) a prime =
    CongruentInt_trans (CongruentInt-sum (difference-prime n (λ k. a (suc k)) prime) (CongruentInt-neg (difference-prime n a prime)))
    (CongruentInt_of (let f = sum_below-first (suc n) a in omega (arith, ints)))
