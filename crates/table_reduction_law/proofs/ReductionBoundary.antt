-- Table reduction is a chain map.
use Rattle.std.proofs.{Common.{◌≡◌, ℕ, zero, suc, ◌+◌, ◌≤◌, List, [], ◌∷◌, map, refl, sym, ◌∙◌, ap, arith, ℤ, pos, length}, lemmas.Int.ints}
use Rattle.signed_sum.{proofs.Names.{length-numbers_from, numbers_from-distinct, total-map}, specs.Names.{numbers_from, unless_empty, total, without_one}}
use Rattle.surjection_law.specs.Names.{without_place}
use Rattle.table_reduction_law.{proofs.Pairing.{pairing, removals-last}, proofs.ReductionWalks.{Good, walk}, proofs.RowsAsWalks.{bridge, count-alike, rows-from, rows_from}, proofs.UnusedEntries.unused-none, proofs.WalkBoundary.places, specs.Names.{reduced_lists, row_lengths, rows, IsPermutationOf, IsTuple}}

pub permutation-length : (r : ℕ) (w : List ℕ) → IsPermutationOf r w → length w ≡ r
permutation-length r w k = count-alike w (numbers_from 1 r) k.distinct (numbers_from-distinct 1 r) k.onto ∙ length-numbers_from 1 r

pub tuple_good : (r : ℕ) (w : List ℕ) (ws : List (List ℕ)) → IsPermutationOf r w → IsTuple r ws → Good ws w []
tuple_good r w [] k t = k.distinct
tuple_good r w (y ∷ ws) k t =
    (t.0.distinct, (λ v. let a = k.onto v in let b = t.0.onto v in omega (arith, a, b)), tuple_good r w ws k t.1)

-- the sum of h over the lists that come from a tuple
abbrev pub reduction_sum : List (List ℕ) → (List ℕ → ℤ) → ℤ
reduction_sum w h = total h (reduced_lists w)

-- the alternating sum of h over the tuples without one entry, and nothing in degree 0
abbrev pub face_sum : List (List ℕ) → (List (List ℕ) → ℤ) → ℤ
face_sum w h = without_one w (λ v. unless_empty v (h v))

-- the sum over row lengths, entry by entry
abbrev pub walked : List (List ℕ) → (List ℕ → ℤ) → ℤ
walked [] h = pos 0
walked (w ∷ ws) h = walk ws w [] h

pub reduced-walked : (r : ℕ) (w : List (List ℕ)) (h : List ℕ → ℤ) → 1 ≤ r → IsTuple r w → reduction_sum w h ≡ walked w h
reduced-walked r [] h k t = refl
reduced-walked zero (w ∷ ws) h k t = absurd (omega (arith, k))
reduced-walked (suc r) (w ∷ ws) h k t =
    let c = permutation-length (suc r) w t.0 in
    let e : length w + length ws ≡ suc (r + length ws) = omega (arith, c) in
    let L : List (List ℕ) = row_lengths (suc (length ws)) (length w + length ws) in
    let a : total h (map (λ ls. rows [] (w ∷ ws) ls) L) ≡ total (λ ls. h (rows [] (w ∷ ws) ls)) L = total-map h (λ ls. rows [] (w ∷ ws) ls) L in
    let b : total (λ ls. h (rows [] (w ∷ ws) ls)) L ≡ total (λ ls. h (rows_from [] w ws ls)) L =
    ap (λ f. total f L) (λ i ls. h ((rows-from [] w ws ls ∙ ap (λ u. rows_from [] u ws ls) (unused-none w)) i)) in
    let d : total (λ ls. h (rows_from [] w ws ls)) L ≡ total (λ ls. h (rows_from [] w ws ls)) (row_lengths (suc (length ws)) (suc (r + length ws))) =
    ap (λ n. total (λ ls. h (rows_from [] w ws ls)) (row_lengths (suc (length ws)) n)) e in
    a ∙ b ∙ d ∙ sym (bridge ws w [] (r + length ws) h (tuple_good (suc r) w ws t.0 t.1) e)

walked-chain : (r : ℕ) (w : List (List ℕ)) (h : List ℕ → ℤ) → IsTuple r w → walked w (λ u. without_place [] u h) ≡ without_one w (λ v. walked v h)
walked-chain r [] h t = refl
walked-chain r (w ∷ []) h t = places [] w [] [] h t.0.distinct ∙ removals-last w [] 0 h
walked-chain r (w ∷ y ∷ ws) h t =
    let g = tuple_good r w (y ∷ ws) t.0 t.1 in
    let a = places (y ∷ ws) w [] [] h g in
    let b = pairing ws y w [] 0 h g in
    let c = ap (λ u. walk ws u [] h) (unused-none y) in
    omega (arith, ints)

-- a boundary depends on the tuples alone that stand in it
without_one-tuples : (r : ℕ) (w : List (List ℕ)) (f g : List (List ℕ) → ℤ) → IsTuple r w → ((v : List (List ℕ)) → IsTuple r v → f v ≡ g v) → without_one w f ≡ without_one w g
without_one-tuples r [] f g t h = refl
without_one-tuples r (x ∷ w) f g t h =
    let a = h w t.1 in
    let b = without_one-tuples r w (λ v. f (x ∷ v)) (λ v. g (x ∷ v)) t.1 (λ v k. h (x ∷ v) (t.0, k)) in
    omega (arith, ints)

pub boundary-cong : (r : ℕ) (w : List (List ℕ)) (f g : List (List ℕ) → ℤ) → IsTuple r w → ((v : List (List ℕ)) → IsTuple r v → f v ≡ g v) → face_sum w f ≡ face_sum w g
boundary-cong r w f g t h = without_one-tuples r w (λ v. unless_empty v (f v)) (λ v. unless_empty v (g v)) t (λ v k. ap (λ z. unless_empty v z) (h v k))

reduced-filled : (v : List (List ℕ)) (h : List ℕ → ℤ) → unless_empty v (walked v h) ≡ walked v h
reduced-filled [] h = refl
reduced-filled (x ∷ v) h = refl

pub chain-law : (r : ℕ) (w : List (List ℕ)) (h : List ℕ → ℤ) → 1 ≤ r → IsTuple r w →
    reduction_sum w (λ u. without_place [] u h) ≡ face_sum w (λ v. reduction_sum v h)
chain-law r w h k t =
    reduced-walked r w (λ u. without_place [] u h) k t
    ∙ walked-chain r w h t
    ∙ sym (ap (λ f. without_one w f) (λ i v. reduced-filled v h i))
    ∙ sym (boundary-cong r w (λ v. reduction_sum v h) (λ v. walked v h) t (λ v q. reduced-walked r v h k q))
