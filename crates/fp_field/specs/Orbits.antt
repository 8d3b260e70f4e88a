-- Words of length p in two letters. A word is a mask: bit i is its letter i + 1.
use Rattle.std.specs.Prelude.{◌≡◌, ℕ, zero, suc, ◌+◌, ◌*◌, ◌/◌, ◌%◌, ◌^◌, ◌<◌, ◌≤◌, ◌==◌, Bool, true, ◌&&◌, map, nat_lt, nat_le, if◌then◌else◌, List, [], ◌∷◌, ◌++◌, length, slice_index}
use Rattle.signed_sum.specs.Names.{letters}
use Rattle.linear_law.specs.Names.{Each, IsAscending}

-- the mask of the word turned by k places
abbrev pub turned_mask : ℕ → ℕ → ℕ → ℕ
turned_mask p k word = (word * 2 ^ k) % 2 ^ p + word * 2 ^ k / 2 ^ p

-- a word with both letters
abbrev pub IsMixed : ℕ → ℕ → Type 0
IsMixed p word = (0 < word) × (word + 1 < 2 ^ p)

-- the numbers below n that pass the test, ascending
abbrev pub numbers_below : ℕ → (ℕ → Bool) → List ℕ
numbers_below zero test = []
numbers_below (suc n) test = numbers_below n test ++ (if test n then n ∷ [] else [])

-- the test holds of each number below n
abbrev pub all_below : ℕ → (ℕ → Bool) → Bool
all_below zero test = true
all_below (suc n) test = all_below n test && test n

-- the words with both letters that no turn makes less: the least one of each orbit, ascending
abbrev pub orbit_masks : ℕ → List ℕ
orbit_masks p = numbers_below (2 ^ p) (λ word. nat_lt 0 word && nat_lt (word + 1) (2 ^ p) && all_below p (λ k. nat_le word (turned_mask p k word)))

-- the words of the listed masks
abbrev pub orbit_words : ℕ → List (List Bool)
orbit_words p = map (letters p) (orbit_masks p)

-- the word is that of the listed mask at a place, turned by k
pub record IsTurnOf (p : ℕ) (masks : List ℕ) (word at k : ℕ) : Type 0 where
  pub listed : at < length masks
  pub power : k < p
  pub turn : turned_mask p k (slice_index masks at) ≡ word

-- each word with both letters is a turn of exactly one listed mask, by exactly one power below p
pub record AreOrbits (p : ℕ) (masks : List ℕ) : Type 0 where
  pub ascends : IsAscending masks
  pub mixed : Each (IsMixed p) masks
  pub least : Each (λ mask. (k : ℕ) → k < p → mask ≤ turned_mask p k mask) masks
  pub reached : (word : ℕ) → IsMixed p word → (at : ℕ) × (k : ℕ) × IsTurnOf p masks word at k
  pub once : (word at k at' k' : ℕ) → IsTurnOf p masks word at k → IsTurnOf p masks word at' k' → (at ≡ at') × (k ≡ k')
