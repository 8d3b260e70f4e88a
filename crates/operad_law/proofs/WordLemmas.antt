-- Symbols in lists, the order of a word, and parity.
use Rattle.std.{proofs.Common.{◌≡◌, ℕ, zero, suc, ◌+◌, ◌-◌, length-drop, ◌<◌, ◌==◌, Bool, true, false, not, cond, List, [], ◌∷◌, length, take, drop, get_or, refl, sym, ap, ◌∙◌, inl, inr, arith, pos, negsuc, neg_ℤ, eq-eqb, ne_eqb}, specs.List.list_any, proofs.lemmas.Bool.{cases_Bool, cases_eq}, proofs.Math.Seq.drop-cons}
use Rattle.signed_sum.specs.Names.{occurs, signed, count_before, inversion_count, stands_before}
use Rattle.operad_law.specs.Parity.{is_odd}

-- whether some entry is v
pub any_occurs : (v : ℕ) (xs : List ℕ) → list_any (λ y. y == v) xs ≡ (occurs v xs == 1)
any_occurs v [] = refl
any_occurs v (y ∷ xs) = elim (cases_eq v y) [
  | inl e ↦ rw (eq-eqb v y e, eq-eqb y v (sym e)) refl
  | inr n ↦ rw (ne_eqb v y n, ne_eqb y v (λ e. n (sym e))) (any_occurs v xs)
]

-- ---- the first place at which a test holds

-- the rest of a list from a place on, as slicing shows it
pub drop_rest : (xs : List ℕ) (i : ℕ) → take (length xs - i) (drop i xs) ≡ drop i xs
drop_rest xs i = rw (← length-drop i xs) (take_all (drop i xs))
  where
    take_all : (ys : List ℕ) → take (length ys) ys ≡ ys
    take_all [] = refl
    take_all (y ∷ ys) = ap (λ v. y ∷ v) (take_all ys)

-- ---- parity
-- whether exactly one of two tests holds
abbrev pub differ : Bool → Bool → Bool
differ true b = not b
differ false b = b

pub not_differ : (a b : Bool) → differ (not a) b ≡ not (differ a b)
not_differ true true = refl
not_differ true false = refl
not_differ false true = refl
not_differ false false = refl

pub differ-none : (a : Bool) → differ a false ≡ a
differ-none true = refl
differ-none false = refl

pub is_odd-plus : (m n : ℕ) → is_odd (m + n) ≡ differ (is_odd m) (is_odd n)
is_odd-plus zero n = let e : 0 + n ≡ n = omega arith in rw e refl
is_odd-plus (suc m) n = let e : suc m + n ≡ suc (m + n) = omega arith in rw e (ap not (is_odd-plus m n) ∙ sym (not_differ (is_odd m) (is_odd n)))

pub differ-assoc : (a b c : Bool) → differ (differ a b) c ≡ differ a (differ b c)
differ-assoc true b c = not_differ b c
differ-assoc false b c = refl

pub signed-odd : (n : ℕ) → signed n (pos 1) ≡ cond (is_odd n) (negsuc 0) (pos 1)
signed-odd zero = refl
signed-odd (suc n) = ap neg_ℤ (signed-odd n) ∙ (elim (is_odd n) as (λ b. neg_ℤ (cond b (negsuc 0) (pos 1)) ≡ cond (not b) (negsuc 0) (pos 1)) [ true ↦ refl | false ↦ refl ])

-- ---- the order of a word

one_or_none : (w : List ℕ) (y x : ℕ) → is_odd (stands_before w y x) ≡ (stands_before w y x == 1)
one_or_none [] y x = refl
one_or_none (z ∷ w) y x = elim (cases_Bool (x == z)) [
  | inl e ↦ rw e refl
  | inr e ↦ elim (cases_Bool (y == z)) [ inl f ↦ rw (e, f) refl | inr f ↦ rw (e, f) (one_or_none w y x) ]
]

-- one more symbol, in the parity of those before x
pub odd_count-next : (w : List ℕ) (x : ℕ) (ys : List ℕ) (i : ℕ) (odd : Bool) → i < length ys →
    differ odd (is_odd (count_before (stands_before w) x (drop i ys)))
    ≡ differ (differ odd (stands_before w (get_or ys i 0) x == 1)) (is_odd (count_before (stands_before w) x (drop (i + 1) ys)))
odd_count-next w x ys i odd h =
    let e : i + 1 ≡ suc i = omega arith in
    let y = get_or ys i 0 in
    rw (e, drop-cons ys i 0 h) (ap (differ odd) (is_odd-plus (stands_before w y x) (count_before (stands_before w) x (drop (suc i) ys)) ∙ ap (λ b. differ b (is_odd (count_before (stands_before w) x (drop (suc i) ys)))) (one_or_none w y x))
    ∙ sym (differ-assoc odd (stands_before w y x == 1) (is_odd (count_before (stands_before w) x (drop (suc i) ys)))))

-- one more symbol, in the parity of the pairs
pub odd_pairs-next : (to from : List ℕ) (i : ℕ) (odd : Bool) → i < length from →
    differ odd (is_odd (inversion_count (stands_before to) (drop i from)))
    ≡ differ (differ odd (is_odd (count_before (stands_before to) (get_or from i 0) (drop (i + 1) from)))) (is_odd (inversion_count (stands_before to) (drop (i + 1) from)))
odd_pairs-next to from i odd h =
    let e : i + 1 ≡ suc i = omega arith in
    let x = get_or from i 0 in
    rw (e, drop-cons from i 0 h) (ap (differ odd) (is_odd-plus (count_before (stands_before to) x (drop (suc i) from)) (inversion_count (stands_before to) (drop (suc i) from)))
    ∙ sym (differ-assoc odd (is_odd (count_before (stands_before to) x (drop (suc i) from))) (is_odd (inversion_count (stands_before to) (drop (suc i) from)))))

-- ---- the steps of the loops
differ-true : (a : Bool) → differ a true ≡ not a
differ-true true = refl
differ-true false = refl

pub turned : (odd odd' b : Bool) → b ≡ true → odd' ≡ not odd → odd' ≡ differ odd b
turned odd odd' b e f = f ∙ sym (differ-true odd) ∙ ap (differ odd) (sym e)

pub unturned : (odd odd' b : Bool) → b ≡ false → odd' ≡ odd → odd' ≡ differ odd b
unturned odd odd' b e f = f ∙ sym (differ-none odd) ∙ ap (differ odd) (sym e)

pub odd_count-step : (w : List ℕ) (x : ℕ) (ys : List ℕ) (i : ℕ) (odd odd' b all : Bool) → i < length ys → b ≡ (stands_before w (get_or ys i 0) x == 1) → odd' ≡ differ odd b →
    differ odd (is_odd (count_before (stands_before w) x (drop i ys))) ≡ all → differ odd' (is_odd (count_before (stands_before w) x (drop (i + 1) ys))) ≡ all
odd_count-step w x ys i odd odd' b all h e f inv =
    ap (λ o. differ o (is_odd (count_before (stands_before w) x (drop (i + 1) ys)))) (f ∙ ap (differ odd) e) ∙ sym (odd_count-next w x ys i odd h) ∙ inv

pub odd_pairs-step : (to from : List ℕ) (i : ℕ) (odd odd' b all : Bool) → i < length from → b ≡ is_odd (count_before (stands_before to) (get_or from i 0) (take (length from - (i + 1)) (drop (i + 1) from))) → odd' ≡ differ odd b →
    differ odd (is_odd (inversion_count (stands_before to) (drop i from))) ≡ all → differ odd' (is_odd (inversion_count (stands_before to) (drop (i + 1) from))) ≡ all
odd_pairs-step to from i odd odd' b all h e f inv =
    ap (λ o. differ o (is_odd (inversion_count (stands_before to) (drop (i + 1) from)))) (f ∙ ap (differ odd) (e ∙ ap (λ v. is_odd (count_before (stands_before to) (get_or from i 0) v)) (drop_rest from (i + 1)))) ∙ sym (odd_pairs-next to from i odd h) ∙ inv
