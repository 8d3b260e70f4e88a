-- The order of words, and the term of a word's boundary at one place.
use Rattle.std.specs.{Prelude.{ℕ, ◌+◌, ◌/◌, ◌%◌, ◌^◌, ◌==◌, Bool, List, ℤ, pos, cond}, Ordering.{bool_cmp, nat_cmp, ordering_then}, declared.cmp.Ordering.Ordering}
use Rattle.signed_sum.specs.Names.{signed, letter_degree, letters, parity, word_degree}
use Rattle.operad_law.specs.FormalSums.{plus_term}

-- words are ordered by their masks
abbrev pub word_order : ℕ × Bool → ℕ × Bool → Ordering
word_order x y = ordering_then (nat_cmp x.0 y.0) (bool_cmp x.1 y.1)

-- the sum with the word in which letter i + 1 is changed from a to b, if it is a, with the sign of the
-- letters before it
abbrev pub with_place : ℕ → ℕ × Bool → List ((ℕ × Bool) × ℤ) → List ((ℕ × Bool) × ℤ)
with_place i x s =
    cond (x.0 / 2 ^ i % 2 == 1) s
    (plus_term word_order s (x.0 + 2 ^ i, x.1) (signed (word_degree (letter_degree (parity x.1)) (letters i x.0)) (pos 1)))
