-- Texts without a byte, and the pieces between such bytes.
use Rattle.std.{proofs.Common.{◌≡◌, ◌∙◌, ℕ, ◌<◌, ◌≤◌, ◌^◌, ◌⊎◌, inl, inr, true, false, List, [], ◌∷◌, ◌++◌, ap, ap₂, refl, sym, subst, arith, rules, ◌==◌, flat_map, ne_eqb, append-nil}, specs.List.slice_split, specs.Fmt.decimal, specs.Str.all_ascii_digits, specs.Str.Parse.digits_value, proofs.lemmas.Fmt.digits_decimal, proofs.lemmas.Str.Parse.{IsNumeralModel, numerals_by_value, tells_all_ascii_digits}, proofs.lemmas.Bool.and_parts, specs.Char.is_ascii_digit}
use Rattle.report_text_law.specs.Names.{joined, behind}

abbrev pub Free : ℕ → List ℕ → Type 0
Free b [] = Unit {0}
Free b (x ∷ xs) = ((x == b) ≡ false) × Free b xs

abbrev pub EachFree : ℕ → List (List ℕ) → Type 0
EachFree b [] = Unit {0}
EachFree b (w ∷ ws) = Free b w × EachFree b ws

pub free_append : (b : ℕ) (xs ys : List ℕ) → Free b xs → Free b ys → Free b (xs ++ ys)
free_append b [] ys h k = k
free_append b (x ∷ xs) ys h k = (h.0, free_append b xs ys h.1 k)

pub free_behind : (b c : ℕ) (ws : List (List ℕ)) → (c == b) ≡ false → EachFree b ws → Free b (flat_map (behind c) ws)
free_behind b c [] n h = tt
free_behind b c (w ∷ ws) n h = (n, free_append b w (flat_map (behind c) ws) h.0 (free_behind b c ws n h.1))

pub free_joined : (b c : ℕ) (ws : List (List ℕ)) → (c == b) ≡ false → EachFree b ws → Free b (joined c ws)
free_joined b c [] n h = tt
free_joined b c (w ∷ ws) n h = free_append b w (flat_map (behind c) ws) h.0 (free_behind b c ws n h.1)

split_free : (b : ℕ) (xs : List ℕ) → Free b xs → slice_split (λ x. x == b) xs ≡ xs ∷ []
split_free b [] h = refl
split_free b (x ∷ xs) h = rw (h.0, split_free b xs h.1) refl

pub split_at : (b : ℕ) (xs ys : List ℕ) → Free b xs → (b == b) ≡ true → slice_split (λ x. x == b) (xs ++ b ∷ ys) ≡ xs ∷ slice_split (λ x. x == b) ys
split_at b [] ys h e = rw e refl
split_at b (x ∷ xs) ys h e = rw (h.0, split_at b xs ys h.1 e) refl

-- the pieces of a joined text are the words
pub split_joined : (b : ℕ) (w : List ℕ) (ws : List (List ℕ)) → (b == b) ≡ true → EachFree b (w ∷ ws) → slice_split (λ x. x == b) (joined b (w ∷ ws)) ≡ w ∷ ws
split_joined b w [] e h = ap (slice_split (λ x. x == b)) (append-nil w) ∙ split_free b w h.0
split_joined b w (v ∷ vs) e h = split_at b w (joined b (v ∷ vs)) h.0 e ∙ ap (λ (t : List (List ℕ)). w ∷ t) (split_joined b v vs e h.1)

-- ---- digits

own : IsNumeralModel (λ ds. all_ascii_digits ds ≡ true) (digits_value 10)
own = numerals_by_value (λ ds. all_ascii_digits ds ≡ true) tells_all_ascii_digits

free_digits : (b : ℕ) (ds : List ℕ) → (b < 48) ⊎ (57 < b) → all_ascii_digits ds ≡ true → Free b ds
free_digits b [] o h = tt
free_digits b (d ∷ ds) o h =
    let parts = and_parts (is_ascii_digit d) (all_ascii_digits ds) h in
    let range : (48 ≤ d) × (d ≤ 57) = search (rules, parts.0) in
    (ne_eqb d b (λ e. elim o [ inl l ↦ omega arith | inr l ↦ omega arith ]), free_digits b ds o parts.1)

pub free_decimal : (b n : ℕ) → (b < 48) ⊎ (57 < b) → n < 2 ^ 64 → Free b (decimal n)
free_decimal b n o lt = free_digits b (decimal n) o (digits_decimal own n lt)

-- ---- texts are cut at their first byte

pub cut : (b : ℕ) (xs ys us vs : List ℕ) → (b == b) ≡ true → Free b xs → Free b us → xs ++ b ∷ ys ≡ us ++ b ∷ vs → (xs ≡ us) × (ys ≡ vs)
cut b [] ys [] vs e h k same = (refl, cc)
cut b [] ys (u ∷ us) vs e h k same = let first : b ≡ u = cc in absurd (let no : (b == b) ≡ false = subst (λ (x : ℕ). (x == b) ≡ false) (sym first) k.0 in cc (e, no))
cut b (x ∷ xs) ys [] vs e h k same = let first : x ≡ b = cc in absurd (let no : (b == b) ≡ false = subst (λ (y : ℕ). (y == b) ≡ false) first h.0 in cc (e, no))
cut b (x ∷ xs) ys (u ∷ us) vs e h k same =
    let first : x ≡ u = cc in
    let rest = cut b xs ys us vs e h.1 k.1 cc in
    (ap₂ ◌∷◌ first rest.0, rest.1)
