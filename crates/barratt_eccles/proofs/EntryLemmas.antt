-- The entries of a tuple at a place, and walks that map them.
use Rattle.std.proofs.{Common.{◌≡◌, ℕ, zero, suc, ◌+◌, ◌-◌, ◌<◌, ◌≤◌, List, [], ◌∷◌, ◌++◌, length, map, take, drop, get_or, sym, ap, ◌∙◌, arith, length-drop}, Math.Seq.{take-length, take-suc}, lemmas.List.map-append}
use Rattle.table_reduction_law.{proofs.ReductionBoundary.permutation-length, specs.Names.IsTuple}

pub entry-length : (r : ℕ) (w : List (List ℕ)) (i : ℕ) (x : List ℕ) → IsTuple r w → x ≡ get_or w i x → i < length w → length x ≡ r
entry-length r [] i x t e h = absurd (omega arith)
entry-length r (y ∷ w) zero x t e h = ap length e ∙ permutation-length r y t.0
entry-length r (y ∷ w) (suc i) x t e h = entry-length r w i x t.1 e (omega arith)

pub map-next : {X Y : Type 0} (f : X → Y) (w : List X) (i : ℕ) (x : X) (ys : List Y) → x ≡ get_or w i x → i < length w → ys ≡ map f (take i w) → ys ++ f x ∷ [] ≡ map f (take (i + 1) w)
map-next f w i x ys e h q =
    let s : suc i ≡ i + 1 = omega arith in
    (λ j. q j ++ f (e j) ∷ []) ∙ sym (map-append f (take i w) (get_or w i x ∷ [])) ∙ ap (map f) (sym (take-suc w i x h) ∙ ap (λ k. take k w) s)

-- the rest of a list from a place on, as slicing shows it
pub rest-slice : {X : Type 0} (xs : List X) (i : ℕ) → take (length xs - i) (drop i xs) ≡ drop i xs
rest-slice xs i = rw (← length-drop i xs) (take-length (drop i xs))
