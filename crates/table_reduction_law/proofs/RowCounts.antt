-- How many lists of row lengths there are.
use Rattle.std.proofs.{Common.{length-append, ◌≡◌, ℕ, zero, suc, ◌+◌, List, [], ◌∷◌, map, refl, ◌∙◌, ap, arith, length}, lemmas.List.length-map}
use Rattle.table_reduction_law.{proofs.ReductionBoundary.permutation-length, specs.Names.{binomial, reduced_lists, row_lengths, rows, with_longer_first, IsTuple}}

count-lengths : (k n : ℕ) → length (row_lengths (suc k) (suc n)) ≡ binomial n k
count-lengths zero zero = refl
count-lengths zero (suc n) =
    let a = length-map (row_lengths 1 (suc n)) with_longer_first in
    let ih = count-lengths zero n in
    omega arith
count-lengths (suc k) zero = refl
count-lengths (suc k) (suc n) =
    let a = length-append (map (λ ls. 1 ∷ ls) (row_lengths (suc k) (suc n))) (map with_longer_first (row_lengths (suc (suc k)) (suc n))) in
    let b = length-map (row_lengths (suc k) (suc n)) (λ ls. 1 ∷ ls) in
    let c = length-map (row_lengths (suc (suc k)) (suc n)) with_longer_first in
    let i = count-lengths k n in
    let j = count-lengths (suc k) n in
    omega arith

pub reduced_lists-length : (r : ℕ) (w : List ℕ) (ws : List (List ℕ)) → IsTuple (suc r) (w ∷ ws) → length (reduced_lists (w ∷ ws)) ≡ binomial (r + length ws) (length ws)
reduced_lists-length r w ws t =
    let c = permutation-length (suc r) w t.0 in
    let e : length w + length ws ≡ suc (r + length ws) = omega (arith, c) in
    length-map (row_lengths (suc (length ws)) (length w + length ws)) (λ ls. rows [] (w ∷ ws) ls)
    ∙ ap (λ n. length (row_lengths (suc (length ws)) n)) e
    ∙ count-lengths (length ws) (r + length ws)
