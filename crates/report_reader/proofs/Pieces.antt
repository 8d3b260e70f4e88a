-- The first piece of a text.
use Rattle.std.{proofs.Common.{◌≡◌, ℕ, ◌+◌, ◌-◌, ◌<◌, ◌≤◌, Bool, true, false, cond, not, List, [], ◌∷◌, length, take, drop, ap, refl, sym, subst, arith, length-drop, Some, None, MatchOption, ◌==◌, ltb-true, ltb-false}, specs.declared.option.Option.Option, specs.List.{onto_first, position_or_len}, proofs.Math.Dec.ltb, proofs.lemmas.List.take_rest, proofs.lemmas.List.Splits.slice_split_first}
use Rattle.report_text_law.specs.Names.{pieces}

abbrev pub is_end : ℕ → Bool
is_end b = b == 10

whole : (xs : List ℕ) → length xs ≤ position_or_len is_end xs → pieces xs ≡ xs ∷ []
whole [] h = refl
whole (x ∷ xs) h = go (is_end x) h (λ l. whole xs l)
  where
    go : (b : Bool) → length (x ∷ xs) ≤ cond (not b) (1 + position_or_len is_end xs) 0 → (length xs ≤ position_or_len is_end xs → pieces xs ≡ xs ∷ []) → cond b ([] ∷ pieces xs) (onto_first x (pieces xs)) ≡ (x ∷ xs) ∷ []
    go true h more = absurd (omega (arith, h))
    go false h more = ap (onto_first x) (more (omega (arith, h)))

-- the place of the first byte 10, or none
abbrev pub FirstPiece : List ℕ → Option ℕ → Type 0
FirstPiece xs at = MatchOption at (pieces xs ≡ xs ∷ []) (λ k. (pieces xs ≡ take k xs ∷ pieces (take (length xs - (k + 1)) (drop (k + 1) xs))) × (length (take (length xs - (k + 1)) (drop (k + 1) xs)) < length xs))

pub first_piece : (xs : List ℕ) (at : Option ℕ) → at ≡ cond (ltb (position_or_len is_end xs) (length xs)) (Some (position_or_len is_end xs)) None → FirstPiece xs at
first_piece xs at e = subst (FirstPiece xs) (sym e) (go (ltb (position_or_len is_end xs) (length xs)) refl)
  where
    go : (b : Bool) → ltb (position_or_len is_end xs) (length xs) ≡ b → FirstPiece xs (cond b (Some (position_or_len is_end xs)) None)
    go true t =
        let lt = ltb-true (position_or_len is_end xs) (length xs) t in
        rw (take_rest xs (position_or_len is_end xs + 1)) (slice_split_first is_end xs 0 lt, omega (arith, length-drop (position_or_len is_end xs + 1) xs, lt))
    go false t = whole xs (ltb-false (position_or_len is_end xs) (length xs) t)
