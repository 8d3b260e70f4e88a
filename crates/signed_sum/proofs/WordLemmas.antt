-- The turn and the boundary of a word.
use Rattle.std.proofs.{Common.{◌≡◌, ℕ, zero, suc, ◌+◌, ◌*◌, ◌%◌, ◌/◌, ◌<◌, ◌^◌, ◌==◌, true, false, Bool, List, [], ◌∷◌, ◌++◌, length, refl, sym, ◌∙◌, ap, subst, arith, append_assoc, append-nil, ℤ, pos, ◌+ℤ◌, ◌*ℤ◌, All, eqb-true}, Math.Nat.pow-succ', lemmas.Bool.eqb-false, lemmas.Int.ints, lemmas.List.Elements.{All-cons, All-map, All-nil, All-weaker}}
use Rattle.signed_sum.{proofs.Ring.{mul_comm, one-mul}, proofs.SignLemmas.{signed-+, signed-mul, signed-parity, signed-signed, signed-zero}, proofs.SumLemmas.{total-map, total-signed, value_at-same, value_at-signed, value_at-sum}, specs.Names.{signed, total, value_at, after_turns, behind_letter, last_letter, letter_degree, letters, letters_before_last, mask_of, word_boundary, word_degree, word_turn}}

pub degree-append : (deg : Bool → ℕ) (w v : List Bool) → word_degree deg (w ++ v) ≡ word_degree deg w + word_degree deg v
degree-append deg [] v = omega arith
degree-append deg (l ∷ w) v = let h = degree-append deg w v in omega arith

-- a product of neighbours is even
pub two-even : (a : ℕ) → (a * suc a) % 2 ≡ 0
two-even zero = refl
two-even (suc a) = let h = two-even a in omega arith

-- signs as factors
pub signed-times : (n : ℕ) (a z : ℤ) → signed n a *ℤ z ≡ signed n (a *ℤ z)
signed-times n a z = mul_comm (signed n a) z ∙ sym (signed-mul n z a) ∙ ap (signed n) (mul_comm z a)

pub times-signed : (n : ℕ) (z : ℤ) → signed n (pos 1) *ℤ z ≡ signed n z
times-signed n z = signed-times n (pos 1) z ∙ ap (signed n) (one-mul z)

signs-times : (m n : ℕ) → signed m (pos 1) *ℤ signed n (pos 1) ≡ signed (m + n) (pos 1)
signs-times m n = times-signed m (signed n (pos 1)) ∙ signed-signed m n (pos 1)

-- ---- the last letter
final-end : (l m : Bool) (w : List Bool) → last_letter m (w ++ (l ∷ [])) ≡ l
final-end l m [] = refl
final-end l m (k ∷ w) = final-end l k w

initial-end : (l m : Bool) (w : List Bool) → letters_before_last m (w ++ (l ∷ [])) ≡ m ∷ w
initial-end l m [] = refl
initial-end l m (k ∷ w) = ap (λ r. m ∷ r) (initial-end l k w)

pub whole-word : (l : Bool) (w : List Bool) → letters_before_last l w ++ (last_letter l w ∷ []) ≡ l ∷ w
whole-word l [] = refl
whole-word l (m ∷ w) = ap (λ r. l ∷ r) (whole-word m w)

pub length-initial : (l : Bool) (w : List Bool) → length (letters_before_last l w) ≡ length w
length-initial l [] = refl
length-initial l (m ∷ w) = ap suc (length-initial m w)

pub length-turn : (deg : Bool → ℕ) (w : List Bool) → length (word_turn deg w).0 ≡ length w
length-turn deg [] = refl
length-turn deg (l ∷ w) = ap suc (length-initial l w)

-- the turn of a word with the last letter l
pub turn-end : (deg : Bool → ℕ) (l : Bool) (w : List Bool) → word_turn deg (w ++ (l ∷ [])) ≡ (l ∷ w, signed (deg l * word_degree deg w) (pos 1))
turn-end deg l [] = refl
turn-end deg l (m ∷ w) = λ i. (final-end l m w i ∷ initial-end l m w i, signed (deg (final-end l m w i) * word_degree deg (initial-end l m w i)) (pos 1))

-- as many turns as b has letters bring b to the front
pub turns-through : (deg : Bool → ℕ) (a b : List Bool) (d : ℕ) → word_degree deg a + word_degree deg b ≡ d →
    after_turns (word_turn deg) (length b) (a ++ b) ≡ (b ++ a, signed (word_degree deg b * suc d) (pos 1))
turns-through deg a [] d e = λ i. (append-nil a i, signed-parity 0 (0 * suc d) (pos 1) (omega arith) i)
turns-through deg a (l ∷ b) d e =
    let s = word_degree deg b * suc d in
    let m = deg l * word_degree deg (b ++ a) in
    let ends : (b ++ (a ++ (l ∷ [])), signed s (pos 1)) ≡ ((b ++ a) ++ (l ∷ []), signed s (pos 1)) = λ i. (sym (append_assoc b a (l ∷ [])) i, signed s (pos 1)) in
    let split = degree-append deg b a in
    let last = degree-append deg a (l ∷ []) in
    let whole : after_turns (word_turn deg) (length b) (a ++ (l ∷ b)) ≡ ((b ++ a) ++ (l ∷ []), signed s (pos 1)) =
    ap (after_turns (word_turn deg) (length b)) (sym (append_assoc a (l ∷ []) b)) ∙ turns-through deg (a ++ (l ∷ [])) b d (omega arith) ∙ ends in
    let even = two-even (deg l) in
    let parity : (s + m) % 2 ≡ ((deg l + word_degree deg b) * suc d) % 2 = signs-parity (deg l) (word_degree deg b) (word_degree deg (b ++ a)) d (omega arith) even in
    (λ i. ((word_turn deg (whole i).0).0, (whole i).1 *ℤ (word_turn deg (whole i).0).1))
    ∙ (λ i. ((turn-end deg l (b ++ a) i).0, signed s (pos 1) *ℤ (turn-end deg l (b ++ a) i).1))
    ∙ (λ i. (l ∷ (b ++ a), (signs-times s m ∙ signed-parity (s + m) ((deg l + word_degree deg b) * suc d) (pos 1) parity) i))
  where
    signs-parity : (l b r d : ℕ) → l + r ≡ d → (l * suc l) % 2 ≡ 0 → (b * suc d + l * r) % 2 ≡ ((l + b) * suc d) % 2
    signs-parity l b r d e v = let q : l * suc d ≡ l * r + l * suc l = ap (λ y. l * suc y) (sym e) ∙ omega arith in omega arith

-- as many turns as there are letters change nothing
pub turned-round : (deg : Bool → ℕ) (w : List Bool) → after_turns (word_turn deg) (length w) w ≡ (w, pos 1)
turned-round deg w =
    turns-through deg [] w (word_degree deg w) (omega arith)
    ∙ (λ i. (append-nil w i, signed-parity (word_degree deg w * suc (word_degree deg w)) 0 (pos 1) (two-even (word_degree deg w)) i))

-- ---- the boundary
value_at-behind : (n : ℕ) (l : Bool) (h : List Bool → ℤ) (ts : List (List Bool × ℤ)) → value_at h (behind_letter n l ts) ≡ signed (letter_degree n l) (value_at (λ w. h (l ∷ w)) ts)
value_at-behind n l h ts =
    total-map (λ (t : List Bool × ℤ). t.1 *ℤ h t.0) (λ (t : List Bool × ℤ). (l ∷ t.0, signed (letter_degree n l) t.1)) ts
    ∙ (λ i. total (λ t. signed-times (letter_degree n l) t.1 (h (l ∷ t.0)) i) ts)
    ∙ total-signed (letter_degree n l) (λ t. t.1 *ℤ h (l ∷ t.0)) ts

pub bound-false : (n : ℕ) (h : List Bool → ℤ) (w : List Bool) → value_at h (word_boundary n (false ∷ w)) ≡ h (true ∷ w) +ℤ signed n (value_at (λ v. h (false ∷ v)) (word_boundary n w))
bound-false n h w = λ i. one-mul (h (true ∷ w)) i +ℤ value_at-behind n false h (word_boundary n w) i

pub bound-true : (n : ℕ) (h : List Bool → ℤ) (w : List Bool) → value_at h (word_boundary n (true ∷ w)) ≡ signed (suc n) (value_at (λ v. h (true ∷ v)) (word_boundary n w))
bound-true n h w = value_at-behind n true h (word_boundary n w)

-- each word of a boundary has one letter b more and one letter a less
abbrev pub IsBound : List Bool → List Bool × ℤ → Type 0
IsBound w t = (deg : Bool → ℕ) → word_degree deg t.0 + deg false ≡ word_degree deg w + deg true

behind-bound : (n : ℕ) (l : Bool) (w : List Bool) (ts : List (List Bool × ℤ)) → All (IsBound w) ts → All (IsBound (l ∷ w)) (behind_letter n l ts)
behind-bound n l w ts k =
    All-map (IsBound (l ∷ w)) (λ (t : List Bool × ℤ). (l ∷ t.0, signed (letter_degree n l) t.1)) ts
    (All-weaker (IsBound w) (λ t. IsBound (l ∷ w) (l ∷ t.0, signed (letter_degree n l) t.1)) (λ t e deg. (let q = e deg in omega arith)) ts k)

pub bound-words : (n : ℕ) (w : List Bool) → All (IsBound w) (word_boundary n w)
bound-words n [] = All-nil (IsBound [])
bound-words n (false ∷ w) =
    All-cons (IsBound (false ∷ w)) (true ∷ w, pos 1) (behind_letter n false (word_boundary n w)) (λ deg. omega arith)
    (behind-bound n false w (word_boundary n w) (bound-words n w))
bound-words n (true ∷ w) = behind-bound n true w (word_boundary n w) (bound-words n w)

length-degree : (w : List Bool) → word_degree (λ l. 1) w ≡ length w
length-degree [] = refl
length-degree (l ∷ w) = let h = length-degree w in omega arith

pub bound-length : (w : List Bool) (t : List Bool × ℤ) → IsBound w t → length t.0 ≡ length w
bound-length w t e = let q = e (λ l. 1) in let a = length-degree t.0 in let b = length-degree w in omega arith

pub bound-append : (n : ℕ) (w r : List Bool) (h : List Bool → ℤ) →
    value_at h (word_boundary n (w ++ r))
    ≡ value_at (λ v. h (v ++ r)) (word_boundary n w) +ℤ signed (word_degree (letter_degree n) w) (value_at (λ v. h (w ++ v)) (word_boundary n r))
bound-append n [] r h = omega (arith, ints)
bound-append n (false ∷ w) r h =
    let d = word_degree (letter_degree n) w in
    let x = value_at (λ v. h (false ∷ (v ++ r))) (word_boundary n w) in
    let y = value_at (λ v. h (false ∷ (w ++ v))) (word_boundary n r) in
    let a = bound-false n h (w ++ r) in
    let b = ap (signed n) (bound-append n w r (λ v. h (false ∷ v))) ∙ signed-+ n x (signed d y) in
    let c = signed-signed n d y in
    let e = bound-false n (λ v. h (v ++ r)) w in
    omega (arith, ints)
bound-append n (true ∷ w) r h =
    let d = word_degree (letter_degree n) w in
    let x = value_at (λ v. h (true ∷ (v ++ r))) (word_boundary n w) in
    let y = value_at (λ v. h (true ∷ (w ++ v))) (word_boundary n r) in
    let a = bound-true n h (w ++ r) in
    let b = ap (signed (suc n)) (bound-append n w r (λ v. h (true ∷ v))) ∙ signed-+ (suc n) x (signed d y) in
    let c = signed-signed (suc n) d y in
    let e = bound-true n (λ v. h (v ++ r)) w in
    omega (arith, ints)

pub bound-twice : (n : ℕ) (h : List Bool → ℤ) (w : List Bool) → value_at (λ v. value_at h (word_boundary n v)) (word_boundary n w) ≡ pos 0
bound-twice n h [] = refl
bound-twice n h (false ∷ w) =
    let x : ℤ = value_at (λ v. h (true ∷ v)) (word_boundary n w) in
    let twice = λ (v : List Bool). value_at (λ u. h (false ∷ u)) (word_boundary n v) in
    let a : value_at (λ v. value_at h (word_boundary n (false ∷ v))) (word_boundary n w) ≡ x +ℤ signed n (value_at twice (word_boundary n w)) =
    (λ i. value_at (λ v. bound-false n h v i) (word_boundary n w)) ∙ value_at-sum (λ v. h (true ∷ v)) (λ v. signed n (twice v)) (word_boundary n w)
    ∙ ap (λ z. x +ℤ z) (value_at-signed n twice (word_boundary n w)) in
    let b = ap (signed n) (bound-twice n (λ v. h (false ∷ v)) w) ∙ signed-zero n in
    let c : signed n (value_at (λ v. value_at h (word_boundary n (false ∷ v))) (word_boundary n w)) ≡ signed n x =
    ap (signed n) (a ∙ omega (arith, ints, b)) in
    bound-false n (λ v. value_at h (word_boundary n v)) w ∙ omega (arith, ints, bound-true n h w, c)
bound-twice n h (true ∷ w) =
    let twice = λ (v : List Bool). value_at (λ u. h (true ∷ u)) (word_boundary n v) in
    bound-true n (λ v. value_at h (word_boundary n v)) w
    ∙ ap (signed (suc n)) ((λ i. value_at (λ v. bound-true n h v i) (word_boundary n w)) ∙ value_at-signed (suc n) twice (word_boundary n w) ∙ ap (signed (suc n)) (bound-twice n (λ v. h (true ∷ v)) w) ∙ signed-zero (suc n))
    ∙ signed-zero (suc n)

-- h at the turned word
abbrev pub at_turned : (Bool → ℕ) → (List Bool → ℤ) → List Bool → ℤ
at_turned deg h w = (word_turn deg w).1 *ℤ h (word_turn deg w).0

pub at_turned-end : (deg : Bool → ℕ) (h : List Bool → ℤ) (l : Bool) (w : List Bool) → at_turned deg h (w ++ (l ∷ [])) ≡ signed (deg l * word_degree deg w) (h (l ∷ w))
at_turned-end deg h l w = (λ i. (turn-end deg l w i).1 *ℤ h (turn-end deg l w i).0) ∙ times-signed (deg l * word_degree deg w) (h (l ∷ w))

-- the turns of the words of a boundary, with the letter l behind them
passed : (n : ℕ) (h : List Bool → ℤ) (l : Bool) (w : List Bool) →
    value_at (λ v. at_turned (letter_degree n) h (v ++ (l ∷ []))) (word_boundary n w)
    ≡ signed (letter_degree n l * suc (word_degree (letter_degree n) w)) (value_at (λ v. h (l ∷ v)) (word_boundary n w))
passed n h l w =
    let deg = letter_degree n in
    let d = word_degree deg w in
    let degrees : All (λ t. word_degree deg t.0 ≡ suc d) (word_boundary n w) =
    All-weaker (IsBound w) (λ t. word_degree deg t.0 ≡ suc d) (λ t e. (let q = e deg in omega arith)) (word_boundary n w) (bound-words n w) in
    value_at-same (λ v. word_degree deg v ≡ suc d) (λ v. at_turned deg h (v ++ (l ∷ []))) (λ v. signed (deg l * suc d) (h (l ∷ v))) (word_boundary n w)
    (λ v q. at_turned-end deg h l v ∙ ap (λ k. signed (deg l * k) (h (l ∷ v))) q) degrees
    ∙ value_at-signed (deg l * suc d) (λ v. h (l ∷ v)) (word_boundary n w)

-- the boundary commutes with the turn
bound-turn-end : (n : ℕ) (h : List Bool → ℤ) (l : Bool) (w : List Bool) →
    at_turned (letter_degree n) (λ v. value_at h (word_boundary n v)) (w ++ (l ∷ [])) ≡ value_at (at_turned (letter_degree n) h) (word_boundary n (w ++ (l ∷ [])))
bound-turn-end n h false w =
    let g = at_turned (letter_degree n) h in
    let d = word_degree (letter_degree n) w in
    let x : ℤ = value_at (λ v. h (false ∷ v)) (word_boundary n w) in
    let y : ℤ = h (true ∷ w) in
    let left = at_turned-end (letter_degree n) (λ v. value_at h (word_boundary n v)) false w
    ∙ ap (signed (n * d)) (bound-false n h w) ∙ signed-+ (n * d) y (signed n x) in
    let two = signed-signed (n * d) n x ∙ signed-parity (n * d + n) (n * suc d) x (omega arith) in
    let right = bound-append n w (false ∷ []) g in
    let end : value_at (λ v. g (w ++ v)) (word_boundary n (false ∷ [])) ≡ signed (suc n * d) y =
    bound-false n (λ v. g (w ++ v)) [] ∙ ap (λ z. g (w ++ (true ∷ [])) +ℤ z) (signed-zero n) ∙ plain (g (w ++ (true ∷ []))) ∙ at_turned-end (letter_degree n) h true w in
    let last = ap (signed d) end ∙ signed-signed d (suc n * d) y ∙ signed-parity (d + suc n * d) (n * d) y (omega arith) in
    let front = passed n h false w in
    left ∙ omega (arith, ints, two, right, last, front)
  where
    plain : (z : ℤ) → z +ℤ pos 0 ≡ z
    plain z = omega (arith, ints)
bound-turn-end n h true w =
    let g = at_turned (letter_degree n) h in
    let d = word_degree (letter_degree n) w in
    let x : ℤ = value_at (λ v. h (true ∷ v)) (word_boundary n w) in
    let left = at_turned-end (letter_degree n) (λ v. value_at h (word_boundary n v)) true w
    ∙ ap (signed (suc n * d)) (bound-true n h w) ∙ signed-signed (suc n * d) (suc n) x ∙ signed-parity (suc n * d + suc n) (suc n * suc d) x (omega arith) in
    let right = bound-append n w (true ∷ []) g in
    let end = signed-zero d in
    let front = passed n h true w in
    left ∙ omega (arith, ints, right, end, front)

pub bound-turn : (n : ℕ) (h : List Bool → ℤ) (w : List Bool) → at_turned (letter_degree n) (λ v. value_at h (word_boundary n v)) w ≡ value_at (at_turned (letter_degree n) h) (word_boundary n w)
bound-turn n h [] = refl
bound-turn n h (l ∷ w) =
    subst (λ (v : List Bool). at_turned (letter_degree n) (λ u. value_at h (word_boundary n u)) v ≡ value_at (at_turned (letter_degree n) h) (word_boundary n v))
    (whole-word l w) (bound-turn-end n h (last_letter l w) (letters_before_last l w))

-- ---- masks
pub length-letters : (k m : ℕ) → length (letters k m) ≡ k
length-letters zero m = refl
length-letters (suc k) m = ap suc (length-letters k (m / 2))

pub mask-letters : (k m : ℕ) → m < 2 ^ k → mask_of (letters k m) ≡ m
mask-letters zero m h = omega arith
mask-letters (suc k) m h = at_bit (mask-letters k (m / 2) (let e = pow-succ' 2 k in omega arith)) (m % 2 == 1) refl
  where
    at_bit : mask_of (letters k (m / 2)) ≡ m / 2 → (b : Bool) → (m % 2 == 1) ≡ b → mask_of (b ∷ letters k (m / 2)) ≡ m
    at_bit half false e = let o = eqb-false (m % 2) 1 e in omega arith
    at_bit half true e = let o = eqb-true (m % 2) 1 e in omega arith

pub letters-mask : (w : List Bool) → letters (length w) (mask_of w) ≡ w
letters-mask [] = refl
letters-mask (false ∷ w) =
    let even : 2 * mask_of w % 2 ≡ 0 = omega arith in
    let half : 2 * mask_of w / 2 ≡ mask_of w = omega arith in
    λ i. (even i == 1) ∷ (ap (letters (length w)) half ∙ letters-mask w) i
letters-mask (true ∷ w) =
    let odd : suc (2 * mask_of w) % 2 ≡ 1 = omega arith in
    let half : suc (2 * mask_of w) / 2 ≡ mask_of w = omega arith in
    λ i. (odd i == 1) ∷ (ap (letters (length w)) half ∙ letters-mask w) i

pub mask-below : (w : List Bool) → mask_of w < 2 ^ length w
mask-below [] = omega arith
mask-below (false ∷ w) = let e = pow-succ' 2 (length w) in let h = mask-below w in omega arith
mask-below (true ∷ w) = let e = pow-succ' 2 (length w) in let h = mask-below w in omega arith
