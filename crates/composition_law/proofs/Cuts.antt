-- The cuts of a list into pieces: lists of places, none below the one before it.
use Rattle.std.proofs.{Common.{◌≡◌, ℕ, zero, suc, ◌+◌, ◌≤◌, List, [], ◌∷◌, length, map, refl, ap, arith, All}, lemmas.List.Elements.{All-append, All-cons, All-map, All-nil, All-weaker}}
use Rattle.interval_cut_law.specs.Names.{rising_lists}
use Rattle.composition_law.specs.Surjections.{IsRising}

rising-down : (a n : ℕ) (p : List ℕ) → IsRising (suc a) p n → IsRising a p n
rising-down a n [] h = omega (arith, h)
rising-down a n (b ∷ p) h = (let k = h.0 in omega arith, h.1)

pub rising-bound : (a n : ℕ) (p : List ℕ) → IsRising a p n → a ≤ n
rising-bound a n [] h = h
rising-bound a n (b ∷ p) h = let k = h.0 in let l = rising-bound b n p h.1 in omega arith

-- a list of k numbers from a to n
abbrev pub IsCutOf : ℕ → ℕ → ℕ → List ℕ → Type 0
IsCutOf a n k p = IsRising a p n × (length p ≡ k)

pub each_cut : (k e a n : ℕ) → a + e ≡ n → All (IsCutOf a n k) (rising_lists a e k)
each_cut zero e a n q = let h : a ≤ n = omega arith in All-cons (IsCutOf a n 0) [] [] (h, refl) (All-nil (IsCutOf a n 0))
each_cut (suc k) zero a n q =
    let h : a ≤ a = omega arith in
    All-map (IsCutOf a n (suc k)) (λ p. a ∷ p) (rising_lists a zero k)
    (All-weaker (IsCutOf a n k) (λ p. IsCutOf a n (suc k) (a ∷ p)) (λ p c. ((h, c.0), ap suc c.1)) (rising_lists a zero k) (each_cut k zero a n q))
each_cut (suc k) (suc e) a n q =
    let h : a ≤ a = omega arith in
    All-append (IsCutOf a n (suc k)) (map (λ p. a ∷ p) (rising_lists a (suc e) k)) (rising_lists (suc a) e (suc k))
    (All-map (IsCutOf a n (suc k)) (λ p. a ∷ p) (rising_lists a (suc e) k)
    (All-weaker (IsCutOf a n k) (λ p. IsCutOf a n (suc k) (a ∷ p)) (λ p c. ((h, c.0), ap suc c.1)) (rising_lists a (suc e) k) (each_cut k (suc e) a n q)))
    (All-weaker (IsCutOf (suc a) n (suc k)) (IsCutOf a n (suc k)) (λ p c. (rising-down a n p c.0, c.1)) (rising_lists (suc a) e (suc k)) (each_cut (suc k) e (suc a) n (omega arith)))
