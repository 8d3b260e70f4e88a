-- The lists of a table reduction take each value, and have r + d entries.
use Rattle.std.proofs.{Common.{◌≡◌, ℕ, zero, suc, ◌+◌, ◌≤◌, List, [], ◌∷◌, ◌++◌, ◌∙◌, ap, arith, sum, take, All, length}, lemmas.List.Elements.{All-map, All-weaker}}
use Rattle.signed_sum.{proofs.Names.{Alike, Alike-cons, occurs-again, occurs-self}, specs.Names.occurs}
use Rattle.surjection_law.specs.Names.{IsOnto}
use Rattle.table_reduction_law.{proofs.ReductionBoundary.{permutation-length, tuple_good}, proofs.ReductionWalks.{Good, good-distinct, good-end, good-use, left}, proofs.RowLengths.{IsRight, all-right, sum-cons}, proofs.RowsAsWalks.{count-alike, rows-from, rows-longer, rows_from, take-all}, proofs.UnusedEntries.{unused-distinct, unused-none}, specs.Names.{ArePositive, reduced_lists, row_lengths, rows, unused, IsTuple}}

sum-least : (ls : List ℕ) → ArePositive ls → length ls ≤ sum ls
sum-least [] h = omega arith
sum-least (n ∷ ls) h = let k = sum-least ls h.1 in let p = h.0 in omega (arith, sum-cons n ls)

-- the rows of one list of row lengths, where xs is left of the first
one-list : (ws : List (List ℕ)) (xs a ls : List ℕ) → Good ws xs a → ArePositive ls → length ls ≡ suc (length ws) → sum ls ≡ length xs + length ws →
    Alike (rows_from a xs ws ls) xs × (length (rows_from a xs ws ls) ≡ sum ls)
one-list ws xs a [] g p l s = absurd (omega (arith, l))
one-list [] xs a (n ∷ []) g p l s =
    let e : n ≡ length xs = omega (arith, s, sum-cons n []) in
    let t : take n xs ++ [] ≡ xs = ap (λ j. take j xs ++ []) e ∙ take-all xs in
    ((λ v. ap (occurs v) t), omega (arith, ap length t, s))
one-list [] xs a (n ∷ m ∷ ls) g p l s = absurd (omega (arith, l))
one-list (w ∷ ws) [] a (n ∷ ls) g p l s = absurd (let k = sum-least (n ∷ ls) p in omega (arith, l, s, k))
one-list (w ∷ ws) (x ∷ xs) a (zero ∷ ls) g p l s = absurd (let q = p.0 in omega arith)
one-list (w ∷ ws) (x ∷ xs) a (suc zero ∷ ls) g p l s =
    let f = left w ws (x ∷ xs) a g in
    let c = count-alike (unused a w) (x ∷ xs) (unused-distinct a w g.0) (good-distinct ws (x ∷ xs) a g.2) f in
    let k = one-list ws (unused a w) a ls (good-end w ws (x ∷ xs) a g) p.1 (omega (arith, l)) (omega (arith, c, s, sum-cons 1 ls)) in
    let e = rows-from a w ws ls in
    ((λ v. ap (λ r. occurs v (x ∷ r)) e ∙ occurs-again v x (rows_from a (unused a w) ws ls) (k.0 x ∙ f x ∙ occurs-self x xs) ∙ k.0 v ∙ f v), omega (arith, ap length e, k.1, sum-cons 1 ls))
one-list (w ∷ ws) (x ∷ xs) a (suc (suc q) ∷ ls) g p l s =
    let k = one-list (w ∷ ws) xs (x ∷ a) (suc q ∷ ls) (good-use (w ∷ ws) x xs a g) (omega arith, p.1) l (omega (arith, s, sum-cons (suc q) ls, sum-cons (suc (suc q)) ls)) in
    let e = rows-longer a xs x q (w ∷ ws) ls in
    ((λ v. ap (occurs v) e ∙ Alike-cons x (rows_from (x ∷ a) xs (w ∷ ws) (suc q ∷ ls)) xs k.0 v), omega (arith, ap length e, k.1, sum-cons (suc q) ls, sum-cons (suc (suc q)) ls))

pub reduced_lists-onto : (r : ℕ) (w : List ℕ) (ws : List (List ℕ)) → 1 ≤ r → IsTuple r (w ∷ ws) →
    All (λ u. IsOnto r u × (length u ≡ r + length ws)) (reduced_lists (w ∷ ws))
reduced_lists-onto r w ws k t =
    let L : List (List ℕ) = row_lengths (suc (length ws)) (length w + length ws) in
    All-map (λ u. IsOnto r u × (length u ≡ r + length ws)) (λ ls. rows [] (w ∷ ws) ls) L
    (All-weaker (IsRight (suc (length ws)) (length w + length ws)) (λ ls. IsOnto r (rows [] (w ∷ ws) ls) × (length (rows [] (w ∷ ws) ls) ≡ r + length ws)) point L
    (all-right (suc (length ws)) (length w + length ws)))
  where
    point : (ls : List ℕ) → IsRight (suc (length ws)) (length w + length ws) ls → IsOnto r (rows [] (w ∷ ws) ls) × (length (rows [] (w ∷ ws) ls) ≡ r + length ws)
    point ls h =
        let e : rows [] (w ∷ ws) ls ≡ rows_from [] w ws ls = rows-from [] w ws ls ∙ ap (λ u. rows_from [] u ws ls) (unused-none w) in
        let o = one-list ws w [] ls (tuple_good r w ws t.0 t.1) h.0 h.1 h.2 in
        ((λ v. ap (occurs v) e ∙ o.0 v ∙ t.0.onto v), ap length e ∙ o.1 ∙ h.2 ∙ ap (λ j. j + length ws) (permutation-length r w t.0))
