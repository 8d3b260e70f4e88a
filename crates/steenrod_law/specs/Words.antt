-- Words of p letters. The letter `false` stands for one cochain, `true` for another. A sum of words with
-- whole coefficients is given by its values: an operator on sums of words by the function that takes h
-- to the value of h at the operator's result.
use Rattle.std.specs.Prelude.{ℕ, ◌-◌, ◌*◌, ◌%◌, ◌≡◌, Bool, true, false, List, [], ◌∷◌, ◌++◌, length, ℤ, pos, ◌+ℤ◌, ◌-ℤ◌, zero, suc}
pub use Rattle.linear_law.specs.Lists.{copies}
use Rattle.signed_sum.specs.Names.{signed, total, value_at, word_boundary}
pub use Rattle.signed_sum.specs.Words.{letter_degree, word_degree}

-- a where the number is 0, else b
abbrev pub choice : {X : Type 0} → ℕ → X → X → X
choice zero a b = a
choice (suc n) a b = b

-- the inverse of the turn: the first letter goes to the end
abbrev pub turn_back : (Bool → ℕ) → (List Bool → ℤ) → List Bool → ℤ
turn_back deg h [] = h []
turn_back deg h (l ∷ w) = signed (deg l * word_degree deg w) (h (w ++ (l ∷ [])))

-- the inverse turn less the identity
abbrev pub turn_back_less_one : (Bool → ℕ) → (List Bool → ℤ) → List Bool → ℤ
turn_back_less_one deg h w = turn_back deg h w -ℤ h w

abbrev pub turn_back_power : (Bool → ℕ) → ℕ → (List Bool → ℤ) → List Bool → ℤ
turn_back_power deg zero h w = h w
turn_back_power deg (suc k) h w = turn_back deg (turn_back_power deg k h) w

-- the sum of the first k powers of the inverse turn. On words of k letters it is the sum of all turns
abbrev pub norm : (Bool → ℕ) → ℕ → (List Bool → ℤ) → List Bool → ℤ
norm deg zero h w = pos 0
norm deg (suc k) h w = norm deg k h w +ℤ turn_back_power deg k h w

-- all turns where m is even, and the inverse turn less the identity where it is odd
abbrev pub step : (Bool → ℕ) → ℕ → ℕ → (List Bool → ℤ) → List Bool → ℤ
step deg p m h w = choice (m % 2) (norm deg p h w) (turn_back_less_one deg h w)

-- the value of h at the boundary
abbrev pub boundary_value : ℕ → (List Bool → ℤ) → List Bool → ℤ
boundary_value n h w = value_at h (word_boundary n w)

-- the contraction: the word with its first letter replaced by `false` where it is `true`, and nothing
-- where it is `false`
abbrev pub contraction : (List Bool → ℤ) → List Bool → ℤ
contraction h [] = pos 0
contraction h (false ∷ w) = pos 0
contraction h (true ∷ w) = h (false ∷ w)

-- the value of h at the sum E_(j+1) of the staircase for d: E_1 is the word `false true .. true`, and
-- E_(j+1) comes from E_j by the step for d - j + 1 and then the contraction
abbrev pub staircase : ℕ → ℕ → ℕ → ℕ → (List Bool → ℤ) → ℤ
staircase p n d zero h = h (false ∷ copies (p - 1) true)
staircase p n d (suc j) h = staircase p n d j (step (letter_degree n) p (d - j) (contraction h))

-- the sum over all words of k letters
abbrev pub all_words : ℕ → (List Bool → ℤ) → ℤ
all_words zero h = h []
all_words (suc k) h = all_words k (λ w. h (false ∷ w)) +ℤ all_words k (λ w. h (true ∷ w))

-- the words have p letters
abbrev pub HaveLength : ℕ → List (List Bool) → Type 0
HaveLength p [] = Unit {0}
HaveLength p (w ∷ ms) = (length w ≡ p) × HaveLength p ms

-- The words `ms` are one for each orbit: each word of p letters that has both letters is a turn of
-- exactly one of them, by exactly one power from 0 to p - 1. Signs do not count here.
pub record IsOrbitTable (p : ℕ) (ms : List (List Bool)) : Type 0 where
  pub long : HaveLength p ms
  pub once : (h : List Bool → ℤ) →
      all_words p h ≡ (h (copies p false) +ℤ h (copies p true)) +ℤ total (norm (λ l. 0) p h) ms
