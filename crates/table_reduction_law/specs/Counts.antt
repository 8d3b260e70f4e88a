-- Counting.
use Rattle.std.specs.Prelude.{ℕ, ◌+◌, ◌*◌, ◌^◌, ◌-◌, ◌≤◌, List, [], ◌∷◌, zero, suc}
use Rattle.table_reduction_law.specs.MayElements.{pair_count}

-- how many sets of k of n things there are
abbrev pub binomial : ℕ → ℕ → ℕ
binomial n zero = 1
binomial zero (suc k) = 0
binomial (suc n) (suc k) = binomial n k + binomial n (suc k)

-- how many lists the May element of degree d for p is made from
abbrev pub candidate_count : ℕ → ℕ → ℕ
candidate_count p d = p ^ pair_count d * binomial (p + d - 1) d

-- each number is positive
abbrev pub ArePositive : List ℕ → Type 0
ArePositive [] = Unit {0}
ArePositive (n ∷ ls) = (1 ≤ n) × ArePositive ls

-- a and b in turn, n entries
abbrev pub in_turn : {X : Type 0} → X → X → ℕ → List X
in_turn a b zero = []
in_turn a b (suc n) = a ∷ in_turn b a n
