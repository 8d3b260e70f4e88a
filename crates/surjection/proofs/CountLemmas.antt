-- How many lists of places there are in which none is below the one before it.
use Rattle.std.proofs.{Common.{◌≡◌, ℕ, zero, suc, ◌+◌, ◌∷◌, length, map, refl, sym, ap, ◌∙◌, arith, min, length-append, nat_lt}, lemmas.Bool.Decides.nat_tests, lemmas.List.length-map}
use Rattle.interval_cut_law.specs.Names.{rising_lists}
use Rattle.table_reduction_law.specs.Names.{binomial}

none-above : (n j m : ℕ) → m ≡ suc (n + j) → binomial n m ≡ 0
none-above n j zero q = absurd (omega arith)
none-above zero j (suc m) q = refl
none-above (suc n) j (suc m) q = let a = none-above n j m (omega arith) in let b = none-above n (suc j) (suc m) (omega arith) in omega arith

all-of : (n : ℕ) → binomial n n ≡ 1
all-of zero = refl
all-of (suc n) = let a = all-of n in let b = none-above n 0 (suc n) (omega arith) in omega arith

pub count-rising : (a e k n : ℕ) → n ≡ e + k → length (rising_lists a e k) ≡ binomial n k
count-rising a e zero n q = refl
count-rising a zero (suc k) n q =
    let r : n ≡ suc k = omega arith in
    length-map (rising_lists a zero k) (λ p. a ∷ p) ∙ count-rising a zero k k (omega arith) ∙ all-of k ∙ sym (ap (λ j. binomial j (suc k)) r ∙ all-of (suc k))
count-rising a (suc e) (suc k) zero q = absurd (omega arith)
count-rising a (suc e) (suc k) (suc n) q =
    let c = length-append (map (λ p. a ∷ p) (rising_lists a (suc e) k)) (rising_lists (suc a) e (suc k)) in
    let m = length-map (rising_lists a (suc e) k) (λ p. a ∷ p) in
    let x = count-rising a (suc e) k n (omega arith) in
    let y = count-rising (suc a) e (suc k) n (omega arith) in
    omega arith

-- whether a number passes a limit shows when it is cut off just above
pub cut-off : (m b : ℕ) → nat_lt m (min (m + 1) b) ≡ nat_lt m b
cut-off m b = grind (arith, nat_tests)
