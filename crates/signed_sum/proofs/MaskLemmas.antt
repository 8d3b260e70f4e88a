-- Words as masks: their boundary and their turn.
use Rattle.std.{proofs.Common.{◌≡◌, ℕ, zero, suc, ◌+◌, ◌≤◌, ◌<◌, ◌^◌, true, false, Bool, ◌*◌, List, [], ◌∷◌, length, map, refl, sym, ◌∙◌, ap, subst, inl, inr, arith, ℤ, pos, neg_ℤ, nat_abs, ◌*ℤ◌, All}, proofs.lemmas.Int.ints, proofs.lemmas.Map.Lookups.{exact_pairs, exact_unsigned}, specs.Ordering.{bool_cmp, nat_cmp, ordering_then}, specs.declared.cmp.Ordering.TheVariants.Equal, proofs.lemmas.List.Elements.{All-map, All-weaker}}
use Rattle.signed_sum.{proofs.SumLemmas.{total-map, value_at-same}, proofs.WordLemmas.{IsBound, at_turned, bound-length, bound-turn, bound-twice, bound-words, degree-append, length-letters, length-turn, letters-mask, mask-below, mask-letters, turned-round, whole-word}, specs.Names.{signed, value_at, weight_of, IsSign, after_turns, IsWord, behind_letter, last_letter, letter_count, letter_degree, letters, letters_before_last, mask_boundary, mask_degree, mask_of, mask_turn, parity, word_boundary, word_degree, word_turn}}

exact_bool : (a b : Bool) → bool_cmp a b ≡ Equal → a ≡ b
exact_bool false false e = refl
exact_bool false true e = absurd (cc e)
exact_bool true false e = absurd (cc e)
exact_bool true true e = refl

-- words that compare equal are the same
pub exact_words : (x y : ℕ × Bool) → ordering_then (nat_cmp x.0 y.0) (bool_cmp x.1 y.1) ≡ Equal → x ≡ y
exact_words = exact_pairs nat_cmp bool_cmp exact_unsigned exact_bool

letters-of : (P : ℕ) (w : List Bool) → length w ≡ P → letters P (mask_of w) ≡ w
letters-of P w e = (λ i. letters (sym e i) (mask_of w)) ∙ letters-mask w

word-of : (P : ℕ) (w : List Bool) (x : ℕ × Bool) → IsWord P x → length w ≡ P → IsWord P (mask_of w, x.1)
word-of P w x v e = record { some = v.some; short = v.short; within = subst (λ (k : ℕ). mask_of w < 2 ^ k) e (mask-below w) }

-- ---- the boundary
pub value_at-masks : (P : ℕ) (phi : ℕ × Bool → ℤ) (x : ℕ × Bool) → value_at phi (mask_boundary P x) ≡ value_at (λ v. phi (mask_of v, x.1)) (word_boundary (parity x.1) (letters P x.0))
value_at-masks P phi x =
    total-map (λ (t : (ℕ × Bool) × ℤ). t.1 *ℤ phi t.0) (λ (t : List Bool × ℤ). ((mask_of t.0, x.1), t.1)) (word_boundary (parity x.1) (letters P x.0))

-- the words of the boundary have P letters
bound-long : (P : ℕ) (x : ℕ × Bool) → All (λ t. length t.0 ≡ P) (word_boundary (parity x.1) (letters P x.0))
bound-long P x =
    All-weaker (IsBound (letters P x.0)) (λ t. length t.0 ≡ P) (λ t b. bound-length (letters P x.0) t b ∙ length-letters P x.0)
    (word_boundary (parity x.1) (letters P x.0)) (bound-words (parity x.1) (letters P x.0))

all-masks : (P : ℕ) (x : ℕ × Bool) (Q : (ℕ × Bool) × ℤ → Type 0) → ((t : List Bool × ℤ) → IsBound (letters P x.0) t → Q ((mask_of t.0, x.1), t.1)) → All Q (mask_boundary P x)
all-masks P x Q k =
    All-map Q (λ (t : List Bool × ℤ). ((mask_of t.0, x.1), t.1)) (word_boundary (parity x.1) (letters P x.0))
    (All-weaker (IsBound (letters P x.0)) (λ t. Q ((mask_of t.0, x.1), t.1)) k (word_boundary (parity x.1) (letters P x.0)) (bound-words (parity x.1) (letters P x.0)))

pub boundary_valid : (P : ℕ) (x : ℕ × Bool) → IsWord P x → All (λ t. IsWord P t.0) (mask_boundary P x)
boundary_valid P x v = all-masks P x (λ t. IsWord P t.0) (λ t b. word-of P t.0 x v (bound-length (letters P x.0) t b ∙ length-letters P x.0))

pub boundary_degree : (P : ℕ) (x : ℕ × Bool) → All (λ t. mask_degree P t.0 + 1 ≡ mask_degree P x) (mask_boundary P x)
boundary_degree P x =
    all-masks P x (λ t. mask_degree P t.0 + 1 ≡ mask_degree P x)
    (λ t b. (let e = letters-of P t.0 (bound-length (letters P x.0) t b ∙ length-letters P x.0) in
    let q = b (letter_count false) in
    let s : mask_degree P (mask_of t.0, x.1) ≡ word_degree (letter_count false) t.0 = ap (word_degree (letter_count false)) e in
    omega arith))

no-letters : (n : ℕ) (w : List Bool) → word_degree (letter_count false) w ≡ 0 → word_boundary n w ≡ []
no-letters n [] e = refl
no-letters n (false ∷ w) e = absurd (omega arith)
no-letters n (true ∷ w) e = ap (behind_letter n true) (no-letters n w (omega arith))

pub no_boundary : (P : ℕ) (x : ℕ × Bool) → mask_degree P x ≡ 0 → mask_boundary P x ≡ []
no_boundary P x e = ap (map (λ (t : List Bool × ℤ). ((mask_of t.0, x.1), t.1))) (no-letters (parity x.1) (letters P x.0) e)

pub boundary_twice : (P : ℕ) (phi : ℕ × Bool → ℤ) (x : ℕ × Bool) → value_at (λ y. value_at phi (mask_boundary P y)) (mask_boundary P x) ≡ pos 0
boundary_twice P phi x =
    let n = parity x.1 in
    let w = letters P x.0 in
    let psi : List Bool → ℤ = λ v. phi (mask_of v, x.1) in
    value_at-masks P (λ y. value_at phi (mask_boundary P y)) x
    ∙ value_at-same (λ v. length v ≡ P) (λ v. value_at phi (mask_boundary P (mask_of v, x.1))) (λ v. value_at psi (word_boundary n v)) (word_boundary n w)
    (λ v e. value_at-masks P phi (mask_of v, x.1) ∙ ap (λ u. value_at psi (word_boundary n u)) (letters-of P v e)) (bound-long P x)
    ∙ bound-twice n psi w

-- ---- weights
pub abs-signed : (n : ℕ) (z : ℤ) → nat_abs (signed n z) ≡ nat_abs z
abs-signed zero z = refl
abs-signed (suc n) z = let h = abs-signed n z in omega (arith, ints)

pub weight-map : {X Y : Type 0} (f : X × ℤ → Y × ℤ) (ts : List (X × ℤ)) → ((t : X × ℤ) → nat_abs (f t).1 ≡ nat_abs t.1) → weight_of (map f ts) ≡ weight_of ts
weight-map f [] e = refl
weight-map f (t ∷ ts) e = let a = e t in let h = weight-map f ts e in omega arith

bound-weight : (n : ℕ) (w : List Bool) → weight_of (word_boundary n w) ≤ length w
bound-weight n [] = omega arith
bound-weight n (false ∷ w) =
    let h = bound-weight n w in
    let e = weight-map (λ (t : List Bool × ℤ). (false ∷ t.0, signed n t.1)) (word_boundary n w) (λ t. abs-signed n t.1) in
    omega (arith, ints)
bound-weight n (true ∷ w) =
    let h = bound-weight n w in
    let e = weight-map (λ (t : List Bool × ℤ). (true ∷ t.0, signed (suc n) t.1)) (word_boundary n w) (λ t. abs-signed (suc n) t.1) in
    omega arith

pub boundary_weight : (P : ℕ) (x : ℕ × Bool) → IsWord P x → weight_of (mask_boundary P x) ≤ 31
boundary_weight P x v =
    let e : weight_of (mask_boundary P x) ≡ weight_of (word_boundary (parity x.1) (letters P x.0)) =
    weight-map (λ (t : List Bool × ℤ). ((mask_of t.0, x.1), t.1)) (word_boundary (parity x.1) (letters P x.0)) (λ t. refl) in
    let h = bound-weight (parity x.1) (letters P x.0) in
    let l = length-letters P x.0 in
    let s = v.short in
    omega arith

count-below : (l : Bool) (w : List Bool) → word_degree (letter_count l) w ≤ length w
count-below l [] = omega arith
count-below false (false ∷ w) = let h = count-below false w in omega arith
count-below false (true ∷ w) = let h = count-below false w in omega arith
count-below true (false ∷ w) = let h = count-below true w in omega arith
count-below true (true ∷ w) = let h = count-below true w in omega arith

pub degree_bound : (P : ℕ) (x : ℕ × Bool) → IsWord P x → mask_degree P x ≤ 31
degree_bound P x v =
    let h = count-below false (letters P x.0) in
    let l = length-letters P x.0 in
    let s = v.short in
    omega arith

-- ---- the turn
long-turn : (P : ℕ) (x : ℕ × Bool) → length (word_turn (letter_degree (parity x.1)) (letters P x.0)).0 ≡ P
long-turn P x = length-turn (letter_degree (parity x.1)) (letters P x.0) ∙ length-letters P x.0

pub turn_valid : (P : ℕ) (x : ℕ × Bool) → IsWord P x → IsWord P (mask_turn P x).0
turn_valid P x v = word-of P (word_turn (letter_degree (parity x.1)) (letters P x.0)).0 x v (long-turn P x)

degree-turn : (deg count : Bool → ℕ) (w : List Bool) → word_degree count (word_turn deg w).0 ≡ word_degree count w
degree-turn deg count [] = refl
degree-turn deg count (l ∷ w) =
    let a = degree-append count (letters_before_last l w) (last_letter l w ∷ []) in
    let b = ap (word_degree count) (whole-word l w) in
    omega arith

pub turn_degree : (P : ℕ) (x : ℕ × Bool) → mask_degree P (mask_turn P x).0 ≡ mask_degree P x
turn_degree P x =
    let deg = letter_degree (parity x.1) in
    ap (word_degree (letter_count false)) (letters-of P (word_turn deg (letters P x.0)).0 (long-turn P x)) ∙ degree-turn deg (letter_count false) (letters P x.0)

is_sign : (n : ℕ) → IsSign (signed n (pos 1))
is_sign zero = inl refl
is_sign (suc n) = elim (is_sign n) [ inl e ↦ inr (ap neg_ℤ e) | inr e ↦ inl (ap neg_ℤ e) ]

turn-sign : (deg : Bool → ℕ) (w : List Bool) → IsSign (word_turn deg w).1
turn-sign deg [] = inl refl
turn-sign deg (l ∷ w) = is_sign (deg (last_letter l w) * word_degree deg (letters_before_last l w))

pub turn_sign : (P : ℕ) (x : ℕ × Bool) → IsSign (mask_turn P x).1
turn_sign P x = turn-sign (letter_degree (parity x.1)) (letters P x.0)

long-turns : (deg : Bool → ℕ) (k : ℕ) (w : List Bool) → length (after_turns (word_turn deg) k w).0 ≡ length w
long-turns deg zero w = refl
long-turns deg (suc k) w = length-turn deg (after_turns (word_turn deg) k w).0 ∙ long-turns deg k w

turns-of-masks : (P k : ℕ) (x : ℕ × Bool) → IsWord P x →
    after_turns (mask_turn P) k x
    ≡ (let t = after_turns (word_turn (letter_degree (parity x.1))) k (letters P x.0) in ((mask_of t.0, x.1), t.1))
turns-of-masks P zero x v = λ i. ((sym (mask-letters P x.0 v.within) i, x.1), pos 1)
turns-of-masks P (suc k) x v =
    let turn = word_turn (letter_degree (parity x.1)) in
    let t = after_turns turn k (letters P x.0) in
    let e = letters-of P t.0 (long-turns (letter_degree (parity x.1)) k (letters P x.0) ∙ length-letters P x.0) in
    let ih = turns-of-masks P k x v in
    (λ i. ((mask_turn P (ih i).0).0, (ih i).1 *ℤ (mask_turn P (ih i).0).1))
    ∙ (λ i. ((mask_of (turn (e i)).0, x.1), t.1 *ℤ (turn (e i)).1))

pub turned_round : (P : ℕ) (x : ℕ × Bool) → IsWord P x → after_turns (mask_turn P) P x ≡ (x, pos 1)
turned_round P x v =
    let deg = letter_degree (parity x.1) in
    let whole : after_turns (word_turn deg) P (letters P x.0) ≡ (letters P x.0, pos 1) =
    (λ i. after_turns (word_turn deg) (sym (length-letters P x.0) i) (letters P x.0)) ∙ turned-round deg (letters P x.0) in
    turns-of-masks P P x v ∙ (λ i. ((mask_of (whole i).0, x.1), (whole i).1)) ∙ (λ i. ((mask-letters P x.0 v.within i, x.1), pos 1))

pub boundary_turn : (P : ℕ) (phi : ℕ × Bool → ℤ) (x : ℕ × Bool) →
    (mask_turn P x).1 *ℤ value_at phi (mask_boundary P (mask_turn P x).0) ≡ value_at (λ y. (mask_turn P y).1 *ℤ phi (mask_turn P y).0) (mask_boundary P x)
boundary_turn P phi x =
    let n = parity x.1 in
    let w = letters P x.0 in
    let turn = word_turn (letter_degree n) in
    let psi : List Bool → ℤ = λ v. phi (mask_of v, x.1) in
    ap (λ z. (turn w).1 *ℤ z) (value_at-masks P phi (mask_turn P x).0 ∙ ap (λ u. value_at psi (word_boundary n u)) (letters-of P (turn w).0 (long-turn P x)))
    ∙ bound-turn n psi w
    ∙ sym
    (value_at-masks P (λ y. (mask_turn P y).1 *ℤ phi (mask_turn P y).0) x
    ∙ value_at-same (λ v. length v ≡ P) (λ v. (mask_turn P (mask_of v, x.1)).1 *ℤ phi (mask_turn P (mask_of v, x.1)).0) (at_turned (letter_degree n) psi) (word_boundary n w)
    (λ v e i. (turn (letters-of P v e i)).1 *ℤ psi (turn (letters-of P v e i)).0) (bound-long P x))
