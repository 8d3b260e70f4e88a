-- Words in two letters: `false` is the letter a, and `true` is b, the boundary of a. In sums, a word
-- stands for the tensor product of its letters.
use Rattle.std.specs.Prelude.{ℕ, ◌+◌, ◌*◌, ◌%◌, ◌/◌, ◌^◌, ◌<◌, ◌≤◌, ◌==◌, Bool, true, false, List, [], ◌∷◌, map, ℤ, pos, zero, suc}
use Rattle.signed_sum.specs.Signs.{signed}

-- the letter a of degree n, and its boundary b of degree n + 1
abbrev pub letter_degree : ℕ → Bool → ℕ
letter_degree n false = n
letter_degree n true = suc n

-- the degree of a word, where the letter l has the degree `deg l`
abbrev pub word_degree : (Bool → ℕ) → List Bool → ℕ
word_degree deg [] = 0
word_degree deg (l ∷ w) = deg l + word_degree deg w

-- the last letter of a word that begins with l, and the letters before it
abbrev pub last_letter : Bool → List Bool → Bool
last_letter l [] = l
last_letter l (m ∷ w) = last_letter m w

abbrev pub letters_before_last : Bool → List Bool → List Bool
letters_before_last l [] = []
letters_before_last l (m ∷ w) = l ∷ letters_before_last m w

-- The turn of a word: the last letter goes to the front, with the sign of this exchange.
abbrev pub word_turn : (Bool → ℕ) → List Bool → List Bool × ℤ
word_turn deg [] = ([], pos 1)
word_turn deg (l ∷ w) =
    (last_letter l w ∷ letters_before_last l w, signed (deg (last_letter l w) * word_degree deg (letters_before_last l w)) (pos 1))

-- the terms with the letter l in front, each with the sign of an operator that passes this letter
abbrev pub behind_letter : ℕ → Bool → List (List Bool × ℤ) → List (List Bool × ℤ)
behind_letter n l ts = map (λ t. (l ∷ t.0, signed (letter_degree n l) t.1)) ts

-- The boundary of a word: the sum over its letters a of the word with that letter replaced by b, with
-- the sign of the degrees of the letters before it.
abbrev pub word_boundary : ℕ → List Bool → List (List Bool × ℤ)
word_boundary n [] = []
word_boundary n (false ∷ w) = (true ∷ w, pos 1) ∷ behind_letter n false (word_boundary n w)
word_boundary n (true ∷ w) = behind_letter n true (word_boundary n w)

-- the word of k letters that a mask stands for: letter i + 1 is b where bit i of the mask is set
abbrev pub letters : ℕ → ℕ → List Bool
letters zero mask = []
letters (suc k) mask = (mask % 2 == 1) ∷ letters k (mask / 2)

-- the mask of a word
abbrev pub mask_of : List Bool → ℕ
mask_of [] = 0
mask_of (false ∷ w) = 2 * mask_of w
mask_of (true ∷ w) = suc (2 * mask_of w)

-- ---- A word of P letters, of which the letter a is odd or even, as its mask and whether a is odd.
pub record IsWord (P : ℕ) (x : ℕ × Bool) : Type 0 where
  pub some : 1 ≤ P
  pub short : P ≤ 31
  pub within : x.0 < 2 ^ P

-- the degree of the letter a: 1 where it is odd, else 0
abbrev pub parity : Bool → ℕ
parity false = 0
parity true = 1

-- 1 where the letter m is l, else 0
abbrev pub letter_count : Bool → Bool → ℕ
letter_count false false = 1
letter_count false true = 0
letter_count true false = 0
letter_count true true = 1

-- the number of letters a
abbrev pub mask_degree : ℕ → ℕ × Bool → ℕ
mask_degree P x = word_degree (letter_count false) (letters P x.0)

abbrev pub mask_boundary : ℕ → ℕ × Bool → List ((ℕ × Bool) × ℤ)
mask_boundary P x = map (λ t. ((mask_of t.0, x.1), t.1)) (word_boundary (parity x.1) (letters P x.0))

abbrev pub mask_turn : ℕ → ℕ × Bool → (ℕ × Bool) × ℤ
mask_turn P x = let t = word_turn (letter_degree (parity x.1)) (letters P x.0) in ((mask_of t.0, x.1), t.1)
