-- The line that is guessed from a spelling.
use Rattle.std.{proofs.Common.{◌≡◌, ◌∙◌, ℕ, ◌+◌, ◌-◌, ◌*◌, ◌<◌, ◌≤◌, ◌^◌, ◌⊎◌, inl, inr, Bool, true, false, cond, ◌&&◌, List, [], ◌∷◌, ◌++◌, length, ap, ap₂, refl, sym, subst, arith, Some, rules, lit<, ◌==◌, map, codes, nat_lt, nat_le, ◌||◌, eqb-true, ltb-true, lt-ltb, le-ltb, leb-true, ne_eqb}, specs.List.{slice_split, list_all}, specs.Fmt.decimal, specs.Str.bytes_eq, proofs.lemmas.Fmt.decimal_is_IsNumeral, proofs.lemmas.Bool.{and_parts, cases_Bool, or_cases}, proofs.lemmas.Slice.Eq.bytes_eq-Decides, specs.Char.digit_value, specs.Str.Parse.{AllDigits, digits_value_after}, proofs.lemmas.Str.Parse.digit_from_value}
use Rattle.fp_field.specs.Served.{served}
use Rattle.complex_file.specs.Names.{is_name, is_letter, is_digit, is_name_byte, begins_with_letter}
use Rattle.report_text_law.{specs.Types.{OpWord, Certificate}, specs.Names.{Chain, heading_line, prime_line, complex_line, facet_line, degree_line, below_line, class_line, product_line, pair_line, with_line, operation_line, column_line, cartan_yes, cartan_no, cycle_line, end_line, map_line, send_line, induced_line, done_line, joined, words, term_word, chain_words, op_word, is_line, is_u32, is_vertex, is_simplex, is_unit, is_term, is_chain, are_values, ascends, terms_ascend, with_digit, number_after, number, numbers, term_pieces, term_of, chain_of, op_of, guess_pair, guess, Line}, proofs.Free.{Free, EachFree, free_joined, free_decimal, split_joined}}
use Rattle.report.specs.declared.columns.OpWord.TheVariants.{Sq, Power, BocksteinPower}

digits_grow : (n : ℕ) (ds : List ℕ) → n ≤ digits_value_after 10 n ds
digits_grow n [] = omega arith
digits_grow n (d ∷ ds) = let g : n * 10 + digit_value d ≤ digits_value_after 10 (n * 10 + digit_value d) ds = digits_grow (n * 10 + digit_value d) ds in omega arith

digit_plain : (d : ℕ) → digit_value d < 10 → digit_value d ≡ d - 48
digit_plain d lt =
    let range = digit_from_value d lt in
    let low : nat_lt d 48 ≡ false = le-ltb d 48 (omega (arith, range.0)) in
    let high : nat_lt d 58 ≡ true = lt-ltb d 58 (omega (arith, range.1)) in
    rw (low, high) refl

-- a number that stays below 2 ^ 32 is never set to 0
small_after : (n : ℕ) (ds : List ℕ) → AllDigits 10 ds → digits_value_after 10 n ds < 2 ^ 32 → number_after n ds ≡ digits_value_after 10 n ds
small_after n [] all lt = refl
small_after n (d ∷ ds) all lt =
    let next : ℕ = n * 10 + digit_value d in
    let grown : n * 10 + digit_value d ≤ digits_value_after 10 (n * 10 + digit_value d) ds = digits_grow (n * 10 + digit_value d) ds in
    let small : n * 10 + digit_value d < 2 ^ 32 = omega arith in
    let taken : nat_lt (n * 10 + digit_value d) (2 ^ 32) ≡ true = lt-ltb (n * 10 + digit_value d) (2 ^ 32) small in
    let same : with_digit n d ≡ n * 10 + digit_value d =
    ap (λ (k : ℕ). cond (nat_lt (n * 10 + k) (2 ^ 32)) (n * 10 + k) 0) (sym (digit_plain d all.0)) ∙ ap (λ (b : Bool). cond b (n * 10 + digit_value d) 0) taken in
    ap (λ (k : ℕ). number_after k ds) same ∙ small_after (n * 10 + digit_value d) ds all.1 lt

number_again : (n : ℕ) → n < 2 ^ 32 → number (decimal n) ≡ n
number_again n lt =
    let wide : n < 2 ^ 64 = omega arith in
    let numeral = decimal_is_IsNumeral n wide in
    let value : digits_value_after 10 0 (decimal n) ≡ n = numeral.1 in
    let small : digits_value_after 10 0 (decimal n) < 2 ^ 32 = rw value lt in
    small_after 0 (decimal n) numeral.0.1 small ∙ value

abbrev pub AreSmall : List ℕ → Type 0
AreSmall [] = Unit {0}
AreSmall (n ∷ ns) = (n < 2 ^ 32) × AreSmall ns

numbers_again : (ns : List ℕ) → AreSmall ns → numbers (map decimal ns) ≡ ns
numbers_again [] h = refl
numbers_again (n ∷ ns) h = ap₂ ◌∷◌ (number_again n h.0) (numbers_again ns h.1)

decimals_free : (b : ℕ) (ns : List ℕ) → (b < 48) ⊎ (57 < b) → AreSmall ns → EachFree b (map decimal ns)
decimals_free b [] o h = tt
decimals_free b (n ∷ ns) o h = (free_decimal b n o (let lt : n < 2 ^ 32 = h.0 in omega arith), decimals_free b ns o h.1)

small_vertices : (vs : List ℕ) → list_all is_vertex vs ≡ true → AreSmall vs
small_vertices [] h = tt
small_vertices (v ∷ vs) h =
    let parts = and_parts (is_vertex v) (list_all is_vertex vs) h in
    let le : v ≤ 999999 = leb-true v 999999 parts.0 in
    (omega arith, small_vertices vs parts.1)

simplex_small : (vs : List ℕ) → is_simplex vs ≡ true → AreSmall vs
simplex_small [] h = tt
simplex_small (v ∷ vs) h = small_vertices (v ∷ vs) (and_parts (list_all is_vertex (v ∷ vs)) (ascends (v ∷ vs)) h).0

values_small : (p : ℕ) (vs : List ℕ) → p < 2 ^ 32 → are_values p vs ≡ true → AreSmall vs
values_small p [] bound h = tt
values_small p (v ∷ vs) bound h =
    let parts = and_parts (nat_lt v p) (are_values p vs) h in
    let lt : v < p = ltb-true v p parts.0 in
    (omega arith, values_small p vs bound parts.1)

-- the vertices of a simplex behind its colon
vertices_again : (vs : List ℕ) → is_simplex vs ≡ true → numbers (slice_split (λ b. b == 46) (joined 46 (map decimal vs))) ≡ vs
vertices_again [] h = cc
vertices_again (v ∷ vs) h =
    let small = simplex_small (v ∷ vs) h in
    ap numbers (split_joined 46 (decimal v) (map decimal vs) refl (decimals_free 46 (v ∷ vs) (inl (lit< tt)) small)) ∙ numbers_again (v ∷ vs) small

unit_small : (p c : ℕ) → p < 2 ^ 32 → is_unit p c ≡ true → c < 2 ^ 32
unit_small p c bound h =
    let lt : c < p = ltb-true c p (and_parts (nat_lt 0 c) (nat_lt c p) h).1 in omega arith

term_again : (p : ℕ) (t : ℕ × List ℕ) → p < 2 ^ 32 → is_term p t ≡ true → term_of (term_word t) ≡ t ∷ []
term_again p t bound h =
    let a = and_parts (is_unit p t.0) (is_simplex t.1) h in
    let small : t.0 < 2 ^ 32 = unit_small p t.0 bound a.0 in
    let wide : t.0 < 2 ^ 64 = omega arith in
    let tail : Free 58 (joined 46 (map decimal t.1)) = free_joined 58 46 (map decimal t.1) refl (decimals_free 58 t.1 (inr (lit< tt)) (simplex_small t.1 a.1)) in
    ap term_pieces (split_joined 58 (decimal t.0) (joined 46 (map decimal t.1) ∷ []) refl (free_decimal 58 t.0 (inr (lit< tt)) wide, (tail, tt)))
    ∙ ap₂ (λ (c : ℕ) (vs : List ℕ). (c, vs) ∷ []) (number_again t.0 small) (vertices_again t.1 a.1)

terms_again : (p : ℕ) (ts : Chain) → p < 2 ^ 32 → list_all (is_term p) ts ≡ true → chain_of (map term_word ts) ≡ ts
terms_again p [] bound h = refl
terms_again p (t ∷ ts) bound h =
    let a = and_parts (is_term p t) (list_all (is_term p) ts) h in
    ap₂ (λ (us vs : Chain). us ++ vs) (term_again p t bound a.0) (terms_again p ts bound a.1)

chain_again : (p : ℕ) (ts : Chain) → p < 2 ^ 32 → is_chain p ts ≡ true → chain_of (chain_words ts) ≡ ts
chain_again p [] bound h = refl
chain_again p (t ∷ ts) bound h = terms_again p (t ∷ ts) bound (and_parts (list_all (is_term p) (t ∷ ts)) (terms_ascend (t ∷ ts)) h).0

pub served_small : (q : ℕ) → served q ≡ true → q < 2 ^ 32
served_small q h =
    elim (or_cases (q == 2 || q == 3) (q == 5) h) [
      | inl o ↦ elim (or_cases (q == 2) (q == 3) o) [
        | inl e ↦ omega (arith, eqb-true q 2 e)
        | inr e ↦ omega (arith, eqb-true q 3 e)
      ]
      | inr e ↦ omega (arith, eqb-true q 5 e)
    ]

-- words have no space and no line's end
term_free : (b p : ℕ) (t : ℕ × List ℕ) → b < 46 → p < 2 ^ 32 → is_term p t ≡ true → Free b (term_word t)
term_free b p t low bound h =
    let a = and_parts (is_unit p t.0) (is_simplex t.1) h in
    let small : t.0 < 2 ^ 32 = unit_small p t.0 bound a.0 in
    let wide : t.0 < 2 ^ 64 = omega arith in
    let digit : b < 48 = omega arith in
    free_joined b 58 (decimal t.0 ∷ joined 46 (map decimal t.1) ∷ []) (ne_eqb 58 b (λ e. omega arith)) (
      free_decimal b t.0 (inl digit) wide,
      (free_joined b 46 (map decimal t.1) (ne_eqb 46 b (λ e. omega arith)) (decimals_free b t.1 (inl digit) (simplex_small t.1 a.1)), tt),
    )

terms_free : (b p : ℕ) (ts : Chain) → b < 46 → p < 2 ^ 32 → list_all (is_term p) ts ≡ true → EachFree b (map term_word ts)
terms_free b p [] low bound h = tt
terms_free b p (t ∷ ts) low bound h =
    let a = and_parts (is_term p t) (list_all (is_term p) ts) h in (term_free b p t low bound a.0, terms_free b p ts low bound a.1)

chain_free : (b p : ℕ) (ts : Chain) → b < 45 → p < 2 ^ 32 → is_chain p ts ≡ true → EachFree b (chain_words ts)
chain_free b p [] low bound h = ((ne_eqb 48 b (λ e. omega arith), tt), tt)
chain_free b p (t ∷ ts) low bound h = terms_free b p (t ∷ ts) (omega arith) bound (and_parts (list_all (is_term p) (t ∷ ts)) (terms_ascend (t ∷ ts)) h).0

range_least : (m n c : ℕ) → (nat_le m c && nat_le c n) ≡ true → m ≤ c
range_least m n c h = leb-true m c (and_parts (nat_le m c) (nat_le c n) h).0

at_least : (c : ℕ) → is_name_byte c ≡ true → 45 ≤ c
at_least c h =
    elim (or_cases (is_letter c) (is_digit c || (c == 95 || c == 45)) h) [
      | inl l ↦ elim (or_cases (nat_le 65 c && nat_le c 90) (nat_le 97 c && nat_le c 122) l) [
        | inl k ↦ omega (arith, range_least 65 90 c k)
        | inr k ↦ omega (arith, range_least 97 122 c k)
      ]
      | inr o ↦ elim (or_cases (is_digit c) (c == 95 || c == 45) o) [
        | inl k ↦ omega (arith, range_least 48 57 c k)
        | inr k ↦ elim (or_cases (c == 95) (c == 45) k) [
          | inl e ↦ omega (arith, eqb-true c 95 e)
          | inr e ↦ omega (arith, eqb-true c 45 e)
        ]
      ]
    ]

letter_free : (b c : ℕ) → b < 45 → is_name_byte c ≡ true → (c == b) ≡ false
letter_free b c low h = ne_eqb c b (λ e. let l : 45 ≤ c = at_least c h in let q : c ≡ b = e in omega arith)

-- bytes of names
text_free : (b : ℕ) (name : List ℕ) → b < 45 → list_all is_name_byte name ≡ true → Free b name
text_free b [] low h = tt
text_free b (c ∷ cs) low h =
    let a = and_parts (is_name_byte c) (list_all is_name_byte cs) h in (letter_free b c low a.0, text_free b cs low a.1)

name_free : (b : ℕ) (name : List ℕ) → b < 45 → is_name name ≡ true → Free b name
name_free b name low h =
    let a = and_parts (nat_le (length name) 32) (begins_with_letter name && list_all is_name_byte name) h in
    text_free b name low (and_parts (begins_with_letter name) (list_all is_name_byte name) a.1).1

number_free : (b n : ℕ) → b < 45 → n < 2 ^ 32 → Free b (decimal n)
number_free b n low lt = free_decimal b n (inl (omega arith)) (omega arith)

pub same_bytes : (a b : List ℕ) → bytes_eq a b ≡ true → a ≡ b
same_bytes a b h = search (rules, bytes_eq-Decides)

-- a number is not the word `is`
not_is : (n : ℕ) → n < 2 ^ 32 → bytes_eq (decimal n) (codes "is") ≡ false
not_is n lt =
    elim (cases_Bool (bytes_eq (decimal n) (codes "is"))) [
      | inl t ↦ absurd (let f : Free 105 (codes "is") = subst (Free 105) (same_bytes (decimal n) (codes "is") t) (free_decimal 105 n (inr (lit< tt)) (omega arith)) in let no : true ≡ false = f.0 in cc no)
      | inr f ↦ f
    ]

op_again : (w : OpWord) → op_of (op_word w) ≡ w
op_again Sq = refl
op_again _ = refl

u32_small : (n : ℕ) → is_u32 n ≡ true → n < 2 ^ 32
u32_small n h = ltb-true n (2 ^ 32) h

vertex_small : (v : ℕ) → is_vertex v ≡ true → v < 2 ^ 32
vertex_small v h = let le : v ≤ 999999 = leb-true v 999999 h in omega arith

and_three : (a b c : Bool) → (a && (b && c)) ≡ true → (a ≡ true) × (b ≡ true) × (c ≡ true)
and_three a b c h = let p = and_parts a (b && c) h in let q = and_parts b c p.1 in (p.0, q.0, q.1)

record AreFive (a i b j n : ℕ) : Type 0 where
  first : a < 2 ^ 32
  second : i < 2 ^ 32
  third : b < 2 ^ 32
  fourth : j < 2 ^ 32
  fifth : n < 2 ^ 32

five : (a i b j n : ℕ) → (is_u32 a && (is_u32 i && (is_u32 b && (is_u32 j && is_u32 n)))) ≡ true → AreFive a i b j n
five a i b j n h =
    let p = and_three (is_u32 a) (is_u32 i) (is_u32 b && (is_u32 j && is_u32 n)) h in
    let q = and_three (is_u32 b) (is_u32 j) (is_u32 n) p.2 in
    record { first = u32_small a p.0; second = u32_small i p.1; third = u32_small b q.0; fourth = u32_small j q.1; fifth = u32_small n q.2 }

six : (p a i b j n v : ℕ) → p < 2 ^ 32 → (is_u32 a && (is_u32 i && (is_u32 b && (is_u32 j && (is_u32 n && is_unit p v))))) ≡ true → AreFive a i b j n × (v < 2 ^ 32)
six p a i b j n v bound h =
    let x = and_three (is_u32 a) (is_u32 i) (is_u32 b && (is_u32 j && (is_u32 n && is_unit p v))) h in
    let y = and_three (is_u32 b) (is_u32 j) (is_u32 n && is_unit p v) x.2 in
    let z = and_parts (is_u32 n) (is_unit p v) y.2 in
    (record { first = u32_small a x.0; second = u32_small i x.1; third = u32_small b y.0; fourth = u32_small j y.1; fifth = u32_small n z.0 }, unit_small p v bound z.1)

degree_small : (n h : ℕ) → (is_u32 (n + 1) && is_u32 h) ≡ true → (n < 2 ^ 32) × (h < 2 ^ 32)
degree_small n h e =
    let a = and_parts (is_u32 (n + 1)) (is_u32 h) e in
    let nb : n + 1 < 2 ^ 32 = u32_small (n + 1) a.0 in
    (omega arith, u32_small h a.1)

-- ---- whole lines

column_again : (j : ℕ) (vs : List ℕ) → j < 2 ^ 32 → AreSmall vs → guess (words Certificate (column_line j vs)) ≡ Some (column_line j vs)
column_again j vs lt small = ap₂ (λ (k : ℕ) (us : List ℕ). Some (column_line k us)) (number_again j lt) (numbers_again vs small)

pair_again : (i j : ℕ) (vs : List ℕ) → i < 2 ^ 32 → j < 2 ^ 32 → AreSmall vs → guess (words Certificate (pair_line i j vs)) ≡ Some (pair_line i j vs)
pair_again i j vs li lj small =
    ap (λ (b : Bool). cond b (Some (column_line (number (decimal i)) (numbers (codes "is" ∷ map decimal vs)))) (guess_pair (decimal i) (decimal j) (codes "is" ∷ map decimal vs))) (not_is j lj)
    ∙ ap (λ (k : ℕ). Some (pair_line k (number (decimal j)) (numbers (map decimal vs)))) (number_again i li)
    ∙ ap₂ (λ (k : ℕ) (us : List ℕ). Some (pair_line i k us)) (number_again j lj) (numbers_again vs small)

operation_again : (w : OpWord) (k q n : ℕ) → k < 2 ^ 32 → q < 2 ^ 32 → n < 2 ^ 32 → guess (words Certificate (operation_line w k q n)) ≡ Some (operation_line w k q n)
operation_again w k q n lk lq ln =
    ap₂ (λ (v : OpWord) (x : ℕ). Some (operation_line v x (number (decimal q)) (number (decimal n)))) (op_again w) (number_again k lk)
    ∙ ap₂ (λ (x y : ℕ). Some (operation_line w k x y)) (number_again q lq) (number_again n ln)

yes_again : (a i b j n : ℕ) → AreFive a i b j n → guess (words Certificate (cartan_yes a i b j n)) ≡ Some (cartan_yes a i b j n)
yes_again a i b j n h =
    ap₂ (λ (x y : ℕ). Some (cartan_yes x y (number (decimal b)) (number (decimal j)) (number (decimal n)))) (number_again a h.first) (number_again i h.second)
    ∙ ap₂ (λ (x y : ℕ). Some (cartan_yes a i x y (number (decimal n)))) (number_again b h.third) (number_again j h.fourth)
    ∙ ap (λ (x : ℕ). Some (cartan_yes a i b j x)) (number_again n h.fifth)

no_again : (a i b j n v : ℕ) → AreFive a i b j n → v < 2 ^ 32 → guess (words Certificate (cartan_no a i b j n v)) ≡ Some (cartan_no a i b j n v)
no_again a i b j n v h lv =
    ap₂ (λ (x y : ℕ). Some (cartan_no x y (number (decimal b)) (number (decimal j)) (number (decimal n)) (number (decimal v)))) (number_again a h.first) (number_again i h.second)
    ∙ ap₂ (λ (x y : ℕ). Some (cartan_no a i x y (number (decimal n)) (number (decimal v)))) (number_again b h.third) (number_again j h.fourth)
    ∙ ap₂ (λ (x y : ℕ). Some (cartan_no a i b j x y)) (number_again n h.fifth) (number_again v lv)

pub guess_again : (p : ℕ) (l : Line) → p < 2 ^ 32 → is_line p l ≡ true → guess (words Certificate l) ≡ Some l
guess_again p (prime_line q) bound h = ap (λ (n : ℕ). Some (prime_line n)) (number_again q (served_small q h))
guess_again p (facet_line vs) bound h = ap (λ (us : List ℕ). Some (facet_line us)) (numbers_again vs (simplex_small vs h))
guess_again p (degree_line n k) bound h =
    let s = degree_small n k h in ap₂ (λ (x y : ℕ). Some (degree_line x y)) (number_again n s.0) (number_again k s.1)
guess_again p (below_line ts) bound h = ap (λ (us : Chain). Some (below_line us)) (chain_again p ts bound h)
guess_again p (class_line ts) bound h = ap (λ (us : Chain). Some (class_line us)) (chain_again p ts bound h)
guess_again p (product_line a b) bound h =
    let s = and_parts (is_u32 a) (is_u32 b) h in ap₂ (λ (x y : ℕ). Some (product_line x y)) (number_again a (u32_small a s.0)) (number_again b (u32_small b s.1))
guess_again p (pair_line i j vs) bound h =
    let s = and_three (is_u32 i) (is_u32 j) (are_values p vs) h in pair_again i j vs (u32_small i s.0) (u32_small j s.1) (values_small p vs bound s.2)
guess_again p (with_line ts) bound h = ap (λ (us : Chain). Some (with_line us)) (chain_again p ts bound h)
guess_again p (operation_line w k q n) bound h =
    let s = and_three (is_u32 k) (is_u32 q) (is_u32 n) h in operation_again w k q n (u32_small k s.0) (u32_small q s.1) (u32_small n s.2)
guess_again p (column_line j vs) bound h =
    let s = and_parts (is_u32 j) (are_values p vs) h in column_again j vs (u32_small j s.0) (values_small p vs bound s.1)
guess_again p (cartan_yes a i b j n) bound h = yes_again a i b j n (five a i b j n h)
guess_again p (cartan_no a i b j n v) bound h = let s = six p a i b j n v bound h in no_again a i b j n v s.0 s.1
guess_again p (cycle_line ts) bound h = ap (λ (us : Chain). Some (cycle_line us)) (chain_again p ts bound h)
guess_again p (send_line v w) bound h =
    let s = and_parts (is_vertex v) (is_vertex w) h in ap₂ (λ (x y : ℕ). Some (send_line x y)) (number_again v (vertex_small v s.0)) (number_again w (vertex_small w s.1))
guess_again p (induced_line q) bound h = ap (λ (n : ℕ). Some (induced_line n)) (number_again q (u32_small q h))
guess_again p _ bound h = refl

op_free : (b : ℕ) (w : OpWord) → b < 45 → Free b (op_word w)
op_free b Sq low = text_free b (codes "Sq") low refl
op_free b Power low = text_free b (codes "P") low refl
op_free b BocksteinPower low = text_free b (codes "bP") low refl

-- no word of a line has this byte, which stands before `-`
pub words_free : (b p : ℕ) (l : Line) → b < 45 → p < 2 ^ 32 → is_line p l ≡ true → EachFree b (words Certificate l)
words_free b p heading_line low bound h = (text_free b (codes "comch") low refl, (text_free b (codes "certificate") low refl, (text_free b (codes "1") low refl, tt)))
words_free b p (prime_line q) low bound h = (text_free b (codes "prime") low refl, (number_free b q low (served_small q h), tt))
words_free b p (complex_line name) low bound h = (text_free b (codes "complex") low refl, (name_free b name low h, tt))
words_free b p (facet_line vs) low bound h = (text_free b (codes "facet") low refl, decimals_free b vs (inl (omega arith)) (simplex_small vs h))
words_free b p (degree_line n k) low bound h =
    let s = degree_small n k h in
    (text_free b (codes "degree") low refl, (number_free b n low s.0, (text_free b (codes "rank") low refl, (number_free b k low s.1, tt))))
words_free b p (below_line ts) low bound h = (text_free b (codes "below") low refl, chain_free b p ts low bound h)
words_free b p (class_line ts) low bound h = (text_free b (codes "class") low refl, chain_free b p ts low bound h)
words_free b p (product_line x y) low bound h =
    let s = and_parts (is_u32 x) (is_u32 y) h in
    (text_free b (codes "product") low refl, (number_free b x low (u32_small x s.0), (number_free b y low (u32_small y s.1), tt)))
words_free b p (pair_line i j vs) low bound h =
    let s = and_three (is_u32 i) (is_u32 j) (are_values p vs) h in
    (text_free b (codes "column") low refl, (number_free b i low (u32_small i s.0), (number_free b j low (u32_small j s.1), (text_free b (codes "is") low refl, decimals_free b vs (inl (omega arith)) (values_small p vs bound s.2)))))
words_free b p (with_line ts) low bound h = (text_free b (codes "with") low refl, chain_free b p ts low bound h)
words_free b p (operation_line w k q n) low bound h =
    let s = and_three (is_u32 k) (is_u32 q) (is_u32 n) h in
    (text_free b (codes "operation") low refl, (op_free b w low, (number_free b k low (u32_small k s.0), (text_free b (codes "from") low refl, (number_free b q low (u32_small q s.1), (text_free b (codes "to") low refl, (number_free b n low (u32_small n s.2), tt)))))))
words_free b p (column_line j vs) low bound h =
    let s = and_parts (is_u32 j) (are_values p vs) h in
    (text_free b (codes "column") low refl, (number_free b j low (u32_small j s.0), (text_free b (codes "is") low refl, decimals_free b vs (inl (omega arith)) (values_small p vs bound s.1))))
words_free b p (cartan_yes x i y j n) low bound h =
    let s = five x i y j n h in
    (text_free b (codes "cartan") low refl, (number_free b x low s.first, (number_free b i low s.second, (number_free b y low s.third, (number_free b j low s.fourth, (number_free b n low s.fifth, (text_free b (codes "yes") low refl, tt)))))))
words_free b p (cartan_no x i y j n v) low bound h =
    let t = six p x i y j n v bound h in
    let s = t.0 in
    (text_free b (codes "cartan") low refl, (number_free b x low s.first, (number_free b i low s.second, (number_free b y low s.third, (number_free b j low s.fourth, (number_free b n low s.fifth, (text_free b (codes "no") low refl, (number_free b v low t.1, tt))))))))
words_free b p (cycle_line ts) low bound h = (text_free b (codes "cycle") low refl, chain_free b p ts low bound h)
words_free b p end_line low bound h = (text_free b (codes "end") low refl, tt)
words_free b p (map_line n x y) low bound h =
    let s = and_three (is_name n) (is_name x) (is_name y) h in
    (text_free b (codes "map") low refl, (name_free b n low s.0, (name_free b x low s.1, (name_free b y low s.2, tt))))
words_free b p (send_line v w) low bound h =
    let s = and_parts (is_vertex v) (is_vertex w) h in
    (text_free b (codes "send") low refl, (number_free b v low (vertex_small v s.0), (number_free b w low (vertex_small w s.1), tt)))
words_free b p (induced_line q) low bound h = (text_free b (codes "induced") low refl, (number_free b q low (u32_small q h), tt))
words_free b p done_line low bound h = (text_free b (codes "done") low refl, tt)
