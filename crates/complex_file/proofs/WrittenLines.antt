-- Lines of words that are written with one space between them are read as those words.
use Rattle.std.{proofs.Common.{◌≡◌, ◌∙◌, ◌+◌, ◌≤◌, ◌<◌, ◌-◌, ◌*◌, ◌/◌, ◌%◌, ◌^◌, ◌&&◌, List, [], ◌∷◌, ◌++◌, ℕ, Bool, true, false, cond, refl, sym, ap, subst, arith, length, map, append_assoc, append-nil, lit<, Ok, Some, None, nat_le, filter, flat_map, le-leb, leb-true, ne_eqb}, specs.declared.option.Option.Option, specs.List.{list_all, slice_split, onto_first}, specs.Fmt.decimal, proofs.lemmas.Fmt.{decimal_by_steps, decimal_nonempty, length-decimal-le}, proofs.lemmas.List.Folds.list_all-append, proofs.lemmas.List.Splits.{slice_split-cons_no, slice_split-cons_yes}, proofs.lemmas.Bool.{and_from, and_parts}, proofs.lemmas.Bool.Decides.nat_tests}
use Rattle.complex_file.{specs.Names.{begins_with_letter, is_allowed, is_blank, is_digit, is_line_end, is_name, is_name_byte, is_not_empty, lines, number_after, words, is_skipped, line_of, numbers, Place, Step, after, at_line, place_after, ◌>>=◌, spaced}, specs.Text.number, specs.Input.after_line, proofs.FacetLemmas.not_empty}

-- ---- words in a line, lines in a text

-- a byte of a line, and one of a word
abbrev is_printed : ℕ → Bool
is_printed b = nat_le 32 b && nat_le b 126

abbrev is_dark : ℕ → Bool
is_dark b = nat_le 33 b && nat_le b 126

abbrev pub is_plain : List ℕ → Bool
is_plain w = is_not_empty w && list_all is_dark w

dark_no_blank : (b : ℕ) → is_dark b ≡ true → is_blank b ≡ false
dark_no_blank b h =
    let low : 33 ≤ b = leb-true 33 b (and_parts (nat_le 33 b) (nat_le b 126) h).0 in
    rw (ne_eqb b 9 (λ e. absurd (omega arith)), ne_eqb b 13 (λ e. absurd (omega arith)), ne_eqb b 32 (λ e. absurd (omega arith))) refl

printed_no_end : (b : ℕ) → is_printed b ≡ true → is_line_end b ≡ false
printed_no_end b h = let low : 32 ≤ b = leb-true 32 b (and_parts (nat_le 32 b) (nat_le b 126) h).0 in ne_eqb b 10 (λ e. absurd (omega arith))

printed_allowed : (b : ℕ) → is_printed b ≡ true → is_allowed b ≡ true
printed_allowed b h =
    let low : 32 ≤ b = leb-true 32 b (and_parts (nat_le 32 b) (nat_le b 126) h).0 in
    rw (ne_eqb b 9 (λ e. absurd (omega arith)), ne_eqb b 10 (λ e. absurd (omega arith)), ne_eqb b 13 (λ e. absurd (omega arith))) h

dark_printed : (b : ℕ) → is_dark b ≡ true → is_printed b ≡ true
dark_printed b h =
    let parts = and_parts (nat_le 33 b) (nat_le b 126) h in
    let low : 33 ≤ b = leb-true 33 b parts.0 in and_from (nat_le 32 b) (nat_le b 126) (le-leb 32 b (omega arith)) parts.1

pub all_weaker : (p q : ℕ → Bool) → ((b : ℕ) → p b ≡ true → q b ≡ true) → (bs : List ℕ) → list_all p bs ≡ true → list_all q bs ≡ true
all_weaker p q h [] a = refl
all_weaker p q h (b ∷ bs) a = let parts = and_parts (p b) (list_all p bs) a in and_from (q b) (list_all q bs) (h b parts.0) (all_weaker p q h bs parts.1)

split_at : (p q : ℕ → Bool) → ((b : ℕ) → p b ≡ true → q b ≡ false) → (bs : List ℕ) (c : ℕ) (cs : List ℕ) → list_all p bs ≡ true → q c ≡ true → slice_split q (bs ++ c ∷ cs) ≡ bs ∷ slice_split q cs
split_at p q h [] c cs a e = slice_split-cons_yes q c cs e
split_at p q h (b ∷ bs) c cs a e =
    let parts = and_parts (p b) (list_all p bs) a in
    slice_split-cons_no q b (bs ++ c ∷ cs) (h b parts.0) ∙ ap (onto_first b) (split_at p q h bs c cs parts.1 e)

split_whole : (p q : ℕ → Bool) → ((b : ℕ) → p b ≡ true → q b ≡ false) → (bs : List ℕ) → list_all p bs ≡ true → slice_split q bs ≡ bs ∷ []
split_whole p q h [] a = refl
split_whole p q h (b ∷ bs) a =
    let parts = and_parts (p b) (list_all p bs) a in
    slice_split-cons_no q b bs (h b parts.0) ∙ ap (onto_first b) (split_whole p q h bs parts.1)

split_spaced : (w : List ℕ) (ws : List (List ℕ)) → list_all is_plain (w ∷ ws) ≡ true → slice_split is_blank (spaced (w ∷ ws)) ≡ w ∷ ws
split_spaced w [] h =
    let plain = and_parts (is_not_empty w) (list_all is_dark w) (and_parts (is_plain w) true h).0 in
    ap (slice_split is_blank) (append-nil w) ∙ split_whole is_dark is_blank dark_no_blank w plain.1
split_spaced w (v ∷ vs) h =
    let parts = and_parts (is_plain w) (list_all is_plain (v ∷ vs)) h in
    split_at is_dark is_blank dark_no_blank w 32 (spaced (v ∷ vs)) (and_parts (is_not_empty w) (list_all is_dark w) parts.0).1 refl
    ∙ ap (λ (us : List (List ℕ)). w ∷ us) (split_spaced v vs parts.1)

all_full : (ws : List (List ℕ)) → list_all is_plain ws ≡ true → filter is_not_empty ws ≡ ws
all_full [] h = refl
all_full (w ∷ ws) h =
    let parts = and_parts (is_plain w) (list_all is_plain ws) h in
    rw ((and_parts (is_not_empty w) (list_all is_dark w) parts.0).0) (ap (λ (us : List (List ℕ)). w ∷ us) (all_full ws parts.1))

spaced_printed : (ws : List (List ℕ)) → list_all is_plain ws ≡ true → list_all is_printed (spaced ws) ≡ true
spaced_printed [] h = refl
spaced_printed (w ∷ []) h =
    let plain = and_parts (is_not_empty w) (list_all is_dark w) (and_parts (is_plain w) true h).0 in
    ap (list_all is_printed) (append-nil w) ∙ all_weaker is_dark is_printed dark_printed w plain.1
spaced_printed (w ∷ v ∷ vs) h =
    let parts = and_parts (is_plain w) (list_all is_plain (v ∷ vs)) h in
    let first : list_all is_printed w ≡ true = all_weaker is_dark is_printed dark_printed w (and_parts (is_not_empty w) (list_all is_dark w) parts.0).1 in
    list_all-append is_printed w (32 ∷ spaced (v ∷ vs)) ∙ and_from (list_all is_printed w) (list_all is_printed (spaced (v ∷ vs))) first (spaced_printed (v ∷ vs) parts.1)

-- ---- numbers and names as words

digit_more : (v : ℕ) (ds : List ℕ) (d m : ℕ) → number_after v ds ≡ Some m → is_digit d ≡ true → number_after v (ds ++ d ∷ []) ≡ Some (m * 10 + (d - 48))
digit_more v [] d m h e = let same : v ≡ m = cc in rw (e, same) refl
digit_more v (b ∷ bs) d m h e = more_step (is_digit b) (number_after (v * 10 + (b - 48)) bs) (number_after (v * 10 + (b - 48)) (bs ++ d ∷ [])) m (m * 10 + (d - 48)) h (λ g. digit_more (v * 10 + (b - 48)) bs d m g e)
  where
    more_step : (t : Bool) (o more : Option ℕ) (m k : ℕ) → cond t o None ≡ Some m → (o ≡ Some m → more ≡ Some k) → cond t more None ≡ Some k
    more_step true o more m k h g = g h
    more_step false o more m k h g = absurd cc

digit_is : (b : ℕ) → 48 ≤ b → b ≤ 57 → is_digit b ≡ true
digit_is b low high = and_from (nat_le 48 b) (nat_le b 57) (le-leb 48 b low) (le-leb b 57 high)

digit_dark : (b : ℕ) → 48 ≤ b → b ≤ 57 → is_dark b ≡ true
digit_dark b low high = and_from (nat_le 33 b) (nat_le b 126) (le-leb 33 b (omega arith)) (le-leb b 126 (omega arith))

abbrev IsNumeral : ℕ → List ℕ → Type 0
IsNumeral n ds = (number_after 0 ds ≡ Some n) × (list_all is_dark ds ≡ true)

numeral_is : (n : ℕ) → n < 2 ^ 64 → IsNumeral n (decimal n)
numeral_is = decimal_by_steps IsNumeral
    (λ n small. let value : 0 * 10 + (48 + n - 48) ≡ n = omega arith in (rw (digit_is (48 + n) (omega arith) (omega arith)) (ap (λ (m : ℕ). Some m) value), and_from (is_dark (48 + n)) true (digit_dark (48 + n) (omega arith) (omega arith)) refl))
    (λ n ds large h.
    let digit : ℕ = 48 + n % 10 in
    let value : n / 10 * 10 + (48 + n % 10 - 48) ≡ n = omega arith in (
      digit_more 0 ds (48 + n % 10) (n / 10) h.0 (digit_is (48 + n % 10) (omega arith) (omega arith)) ∙ ap (λ (m : ℕ). Some m) value,
      list_all-append is_dark ds ((48 + n % 10) ∷ []) ∙ and_from (list_all is_dark ds) (is_dark (48 + n % 10) && true) h.1 (and_from (is_dark (48 + n % 10)) true (digit_dark (48 + n % 10) (omega arith) (omega arith)) refl),
    ))

wide : (n : ℕ) → n ≤ 999999 → n < 2 ^ 64
wide n h = let large : 999999 < 2 ^ 64 = lit< tt in omega arith

pub number_read : (n : ℕ) → n ≤ 999999 → number (decimal n) ≡ Some n
unfolding number
number_read n h =
    let some : is_not_empty (decimal n) ≡ true = not_empty (decimal n) (decimal_nonempty n (wide n h)) in
    let short : nat_le (length (decimal n)) 6 ≡ true = le-leb (length (decimal n)) 6 (length-decimal-le 6 n (omega arith) (omega arith) (wide n h)) in
    rw (some, short) (numeral_is n (wide n h)).0

pub number_plain : (n : ℕ) → n ≤ 999999 → is_plain (decimal n) ≡ true
number_plain n h = and_from (is_not_empty (decimal n)) (list_all is_dark (decimal n)) (not_empty (decimal n) (decimal_nonempty n (wide n h))) (numeral_is n (wide n h)).1

pub numbers_read : (vs : List ℕ) → list_all (λ v. nat_le v 999999) vs ≡ true → numbers (map decimal vs) ≡ Some vs
numbers_read [] h = refl
numbers_read (v ∷ vs) h =
    let parts = and_parts (nat_le v 999999) (list_all (λ v. nat_le v 999999) vs) h in
    rw (number_read v (leb-true v 999999 parts.0), numbers_read vs parts.1) refl

pub numbers_plain : (vs : List ℕ) → list_all (λ v. nat_le v 999999) vs ≡ true → list_all is_plain (map decimal vs) ≡ true
numbers_plain [] h = refl
numbers_plain (v ∷ vs) h =
    let parts = and_parts (nat_le v 999999) (list_all (λ v. nat_le v 999999) vs) h in
    and_from (is_plain (decimal v)) (list_all is_plain (map decimal vs)) (number_plain v (leb-true v 999999 parts.0)) (numbers_plain vs parts.1)

name_dark : (b : ℕ) → is_name_byte b ≡ true → is_dark b ≡ true
name_dark b h = grind (arith, nat_tests)

pub name_plain : (w : List ℕ) → is_name w ≡ true → is_plain w ≡ true
name_plain [] h = absurd cc
name_plain (b ∷ bs) h =
    let named = and_parts (begins_with_letter (b ∷ bs)) (list_all is_name_byte (b ∷ bs)) (and_parts (nat_le (length (b ∷ bs)) 32) (begins_with_letter (b ∷ bs) && list_all is_name_byte (b ∷ bs)) h).1 in
    and_from (is_not_empty (b ∷ bs)) (list_all is_dark (b ∷ bs)) (not_empty (b ∷ bs) (omega arith)) (all_weaker is_name_byte is_dark name_dark (b ∷ bs) named.1)

-- ---- steps

-- a line that is not skipped, and what it makes of a place
pub record IsStep (p : Place) (ws : List (List ℕ)) (q : Place) : Type 0 where
  pub said : is_skipped ws ≡ false
  pub plain : list_all is_plain ws ≡ true
  pub made : after p (line_of ws) ≡ Ok q

-- lines that lead from a place to another
abbrev pub Leads : Place → List (List (List ℕ)) → Place → Type 0
Leads p [] q = p ≡ q
Leads p (l ∷ ls) q = (r : Place) × IsStep p l r × Leads r ls q

pub leads_on : (p q r : Place) (ls more : List (List (List ℕ))) → Leads p ls q → Leads q more r → Leads p (ls ++ more) r
leads_on p q r [] more h g = subst (λ (o : Place). Leads o more r) (sym h) g
leads_on p q r (l ∷ ls) more h g = (h.0, h.1, leads_on h.0 q r ls more h.2 g)

words_read : (ws : List (List ℕ)) → is_skipped ws ≡ false → list_all is_plain ws ≡ true → words (spaced ws) ≡ ws
words_read [] h plain = absurd cc
words_read (w ∷ ws) h plain = ap (filter is_not_empty) (split_spaced w ws plain) ∙ all_full (w ∷ ws) plain

line_read : (p : Place) (ws : List (List ℕ)) (q : Place) → IsStep p ws q → after_line p (spaced ws) ≡ Ok q
unfolding after_line
line_read p ws q h =
    let allowed : list_all is_allowed (spaced ws) ≡ true = all_weaker is_printed is_allowed printed_allowed (spaced ws) (spaced_printed ws h.plain) in
    rw (allowed, words_read ws h.said h.plain, h.said) h.made

pub lines_lead : (n : ℕ) (p q : Place) (ls : List (List (List ℕ))) (more : List (List ℕ)) → Leads p ls q → place_after n p (map spaced ls ++ more) ≡ place_after (n + length ls) q more
lines_lead n p q [] more h = ap (λ (o : Place). place_after n o more) h ∙ ap (λ (m : ℕ). place_after m q more) (omega arith)
lines_lead n p q (l ∷ ls) more h =
    ap (λ (s : Step). at_line n s >>= λ next. place_after (n + 1) next (map spaced ls ++ more)) (line_read p l h.0 h.1)
    ∙ lines_lead (n + 1) h.0 q ls more h.2 ∙ ap (λ (m : ℕ). place_after m q more) (omega arith)

pub lines_read : (p q : Place) (ls : List (List (List ℕ))) → Leads p ls q → lines (flat_map (λ ws. spaced ws ++ 10 ∷ []) ls) ≡ map spaced ls ++ [] ∷ []
lines_read p q [] h = refl
lines_read p q (l ∷ ls) h =
    ap lines (append_assoc (spaced l) (10 ∷ []) (flat_map (λ ws. spaced ws ++ 10 ∷ []) ls))
    ∙ split_at is_printed is_line_end printed_no_end (spaced l) 10 (flat_map (λ ws. spaced ws ++ 10 ∷ []) ls) (spaced_printed l h.1.plain) refl
    ∙ ap (λ (more : List (List ℕ)). spaced l ∷ more) (lines_read h.0 q ls h.2)
