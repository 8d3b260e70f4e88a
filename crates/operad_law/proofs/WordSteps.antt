-- The letters of a mask one after the other, and the terms of the boundary of a word place by place.
use Rattle.std.proofs.{Common.{◌≡◌, ℕ, zero, suc, ◌+◌, ◌-◌, ◌*◌, ◌/◌, ◌%◌, ◌^◌, ◌≤◌, ◌<◌, ◌==◌, Bool, true, false, not, cond, List, [], ◌∷◌, ◌++◌, length, length-append, refl, sym, ◌∙◌, ap, subst, arith, append_assoc, append-nil, ℤ, pos, ◌+ℤ◌, eqb-true}, Math.Nat.{add-mul-div_left, add-mul-mod_self_left, div-div-eq-div-mul, div-eq_of_lt, div-one, mod-eq_of_lt, pow-suc, pow-succ'}, lemmas.Bool.eqb-false, lemmas.Int.ints, lemmas.Nat.mul-mod}
use Rattle.signed_sum.{proofs.Names.{abs-signed, exact_words, value_at-masks, signed-parity, signed-zero, bound-append, bound-false, bound-true, length-letters, letters-mask, mask-below, mask-letters, times-signed, turn-end}, specs.Names.{signed, value_at, weight_of, IsWord, letter_count, letter_degree, letters, mask_boundary, mask_of, mask_turn, parity, word_boundary, word_degree, word_turn}}
use Rattle.operad_law.{specs.FormalSums.{IsSameSum, plus_term}, specs.Words.{with_place, word_order}, proofs.PlusTerm.{value_at-plus_term, weight_of-plus_term}}

pub count-one : (l m : Bool) → letter_count l m ≤ 1
count-one false false = omega arith
count-one false true = omega arith
count-one true false = omega arith
count-one true true = omega arith

-- one more letter counted
pub count-step : (f : Bool → ℕ) (j k rest count step whole : ℕ) → k ≡ suc j → step ≡ f (rest % 2 == 1) → count + word_degree f (letters k rest) ≡ whole → (count + step) + word_degree f (letters j (rest / 2)) ≡ whole
count-step f j k rest count step whole e s h =
    let a : word_degree f (letters k rest) ≡ f (rest % 2 == 1) + word_degree f (letters j (rest / 2)) = ap (λ i. word_degree f (letters i rest)) e in
    omega arith

-- the number of odd letters has the parity of the degree
odd-letters : (odd : Bool) (w : List Bool) → word_degree (letter_count (not odd)) w % 2 ≡ word_degree (letter_degree (parity odd)) w % 2
odd-letters odd [] = refl
odd-letters false (false ∷ w) = let h = odd-letters false w in omega arith
odd-letters false (true ∷ w) = let h = odd-letters false w in omega arith
odd-letters true (false ∷ w) = let h = odd-letters true w in omega arith
odd-letters true (true ∷ w) = let h = odd-letters true w in omega arith

sign-parity : (m n : ℕ) (b : Bool) → m % 2 ≡ n % 2 → (m % 2 == 1) ≡ b → signed (parity b) (pos 1) ≡ signed n (pos 1)
sign-parity m n false e q = let o = eqb-false (m % 2) 1 q in signed-parity 0 n (pos 1) (omega arith)
sign-parity m n true e q = let o = eqb-true (m % 2) 1 q in signed-parity 1 n (pos 1) (omega arith)

-- the sign of the letters of a word, from the number of the odd ones
pub sign-before : (odd : Bool) (w : List Bool) (m : ℕ) → m ≡ word_degree (letter_count (not odd)) w → signed (parity (m % 2 == 1)) (pos 1) ≡ signed (word_degree (letter_degree (parity odd)) w) (pos 1)
sign-before odd w m e = sign-parity m (word_degree (letter_degree (parity odd)) w) (m % 2 == 1) (ap (λ k. k % 2) e ∙ odd-letters odd w) refl

-- ---- the letters of a mask
halved : (m i : ℕ) → m / 2 / 2 ^ i ≡ m / 2 ^ suc i
halved m i = div-div-eq-div-mul m 2 (2 ^ i) ∙ ap (λ k. m / k) (sym (pow-succ' 2 i))

halves : (m i : ℕ) → m / 2 ^ suc i ≡ m / 2 ^ i / 2
halves m i = ap (λ k. m / k) (pow-suc 2 i) ∙ sym (div-div-eq-div-mul m (2 ^ i) 2)

pub letters-split : (i j m : ℕ) → letters (i + j) m ≡ letters i m ++ letters j (m / 2 ^ i)
letters-split zero j m = (let e : zero + j ≡ j = omega arith in ap (λ k. letters k m) e) ∙ ap (letters j) (sym (div-one m))
letters-split (suc i) j m =
    (let e : suc i + j ≡ suc (i + j) = omega arith in ap (λ k. letters k m) e)
    ∙ ap (λ w. (m % 2 == 1) ∷ w) (letters-split i j (m / 2) ∙ ap (λ q. letters i (m / 2) ++ letters j q) (halved m i))

-- the letters of a mask before a place, there, and after it
at_place : (P i m : ℕ) → i < P → letters P m ≡ letters i m ++ ((m / 2 ^ i % 2 == 1) ∷ letters (P - suc i) (m / 2 ^ i / 2))
at_place P i m h = (let e : P ≡ i + suc (P - suc i) = omega arith in ap (λ k. letters k m) e) ∙ letters-split i (suc (P - suc i)) m

mask-append : (v r : List Bool) → mask_of (v ++ r) ≡ mask_of v + 2 ^ length v * mask_of r
mask-append [] r = omega arith
mask-append (false ∷ v) r = let h = mask-append v r in let e = ap (λ k. k * mask_of r) (pow-succ' 2 (length v)) in omega arith
mask-append (true ∷ v) r = let h = mask-append v r in let e = ap (λ k. k * mask_of r) (pow-succ' 2 (length v)) in omega arith

mask-change : (v r : List Bool) → mask_of (v ++ (true ∷ r)) ≡ mask_of (v ++ (false ∷ r)) + 2 ^ length v
mask-change v r = let a = mask-append v (true ∷ r) in let b = mask-append v (false ∷ r) in omega arith

-- a mask with one letter changed from a to b
pub changed : (P i m : ℕ) → i < P → m < 2 ^ P → (m / 2 ^ i % 2 == 1) ≡ false → mask_of (letters i m ++ (true ∷ letters (P - suc i) (m / 2 ^ i / 2))) ≡ m + 2 ^ i
changed P i m h w b =
    let v = letters i m in
    let r = letters (P - suc i) (m / 2 ^ i / 2) in
    let whole : mask_of (v ++ (false ∷ r)) ≡ m = ap (λ l. mask_of (v ++ (l ∷ r))) (sym b) ∙ ap mask_of (sym (at_place P i m h)) ∙ mask-letters P m w in
    let long : 2 ^ length v ≡ 2 ^ i = ap (λ k. 2 ^ k) (length-letters i m) in
    let e = mask-change v r in
    omega arith

pub changed-valid : (P i : ℕ) (x : ℕ × Bool) → i < P → IsWord P x → (x.0 / 2 ^ i % 2 == 1) ≡ false → IsWord P (x.0 + 2 ^ i, x.1)
changed-valid P i x h w b =
    let v = letters i x.0 in
    let r = letters (P - suc i) (x.0 / 2 ^ i / 2) in
    let long : length (v ++ (true ∷ r)) ≡ P = length-append v (true ∷ r) ∙ (let a = length-letters i x.0 in let c = length-letters (P - suc i) (x.0 / 2 ^ i / 2) in omega arith) in
    let small : mask_of (v ++ (true ∷ r)) < 2 ^ P = subst (λ (k : ℕ). mask_of (v ++ (true ∷ r)) < 2 ^ k) long (mask-below (v ++ (true ∷ r))) in
    record { some = w.some; short = w.short; within = subst (λ (k : ℕ). k < 2 ^ P) (changed P i x.0 h w.within b) small }

-- ---- the terms of the boundary up to a place
pub record SumsTo (P i : ℕ) (x : ℕ × Bool) (s : List ((ℕ × Bool) × ℤ)) : Type 0 where
  pub light : weight_of s ≤ i
  pub at : (phi : ℕ × Bool → ℤ) →
      value_at phi s ≡ value_at (λ v. phi (mask_of (v ++ letters (P - i) (x.0 / 2 ^ i)), x.1)) (word_boundary (parity x.1) (letters i x.0))

pub all-places : (P : ℕ) (x : ℕ × Bool) (s : List ((ℕ × Bool) × ℤ)) → SumsTo P P x s → IsSameSum s (mask_boundary P x)
all-places P x s k = record {
  at = λ phi. k.at phi
      ∙ (let e : P - P ≡ 0 = omega arith in
      let none : letters (P - P) (x.0 / 2 ^ P) ≡ [] = ap (λ n. letters n (x.0 / 2 ^ P)) e in
      (λ i. value_at (λ v. phi (mask_of ((ap (λ r. v ++ r) none ∙ append-nil v) i), x.1)) (word_boundary (parity x.1) (letters P x.0))))
      ∙ sym (value_at-masks P phi x);
}

place-value : (n : ℕ) (h : List Bool → ℤ) (v r : List Bool) (l : Bool) →
    value_at (λ u. h (u ++ r)) (word_boundary n (v ++ (l ∷ [])))
    ≡ value_at (λ u. h (u ++ (l ∷ r))) (word_boundary n v) +ℤ cond l (pos 0) (signed (word_degree (letter_degree n) v) (h (v ++ (true ∷ r))))
place-value n h v r l =
    bound-append n v (l ∷ []) (λ u. h (u ++ r))
    ∙ (λ i. value_at (λ u. h (append_assoc u (l ∷ []) r i)) (word_boundary n v) +ℤ signed (word_degree (letter_degree n) v) (last l i))
    ∙ ap (λ z. value_at (λ u. h (u ++ (l ∷ r))) (word_boundary n v) +ℤ z) (sign_in l)
  where
    plain : (z : ℤ) → z +ℤ pos 0 ≡ z
    plain z = omega (arith, ints)

    last : (l : Bool) → value_at (λ u. h ((v ++ u) ++ r)) (word_boundary n (l ∷ [])) ≡ cond l (pos 0) (h (v ++ (true ∷ r)))
    last false =
        bound-false n (λ u. h ((v ++ u) ++ r)) []
        ∙ ap (λ z. h ((v ++ (true ∷ [])) ++ r) +ℤ z) (signed-zero n)
        ∙ plain (h ((v ++ (true ∷ [])) ++ r))
        ∙ ap h (append_assoc v (true ∷ []) r)
    last true = bound-true n (λ u. h ((v ++ u) ++ r)) [] ∙ signed-zero (suc n)

    sign_in : (l : Bool) → signed (word_degree (letter_degree n) v) (cond l (pos 0) (h (v ++ (true ∷ r)))) ≡ cond l (pos 0) (signed (word_degree (letter_degree n) v) (h (v ++ (true ∷ r))))
    sign_in false = refl
    sign_in true = signed-zero (word_degree (letter_degree n) v)

placed : (P i : ℕ) (x : ℕ × Bool) (s : List ((ℕ × Bool) × ℤ)) (phi : ℕ × Bool → ℤ) → i < P → x.0 < 2 ^ P → (b : Bool) → (x.0 / 2 ^ i % 2 == 1) ≡ b →
    value_at phi (cond b s (plus_term word_order s (x.0 + 2 ^ i, x.1) (signed (word_degree (letter_degree (parity x.1)) (letters i x.0)) (pos 1))))
    ≡ value_at phi s +ℤ cond b (pos 0) (signed (word_degree (letter_degree (parity x.1)) (letters i x.0)) (phi (mask_of (letters i x.0 ++ (true ∷ letters (P - suc i) (x.0 / 2 ^ i / 2))), x.1)))
placed P i x s phi h w true e = omega (arith, ints)
placed P i x s phi h w false e =
    let d = word_degree (letter_degree (parity x.1)) (letters i x.0) in
    let a = value_at-plus_term word_order exact_words phi s (x.0 + 2 ^ i, x.1) (signed d (pos 1)) in
    let b = times-signed d (phi (x.0 + 2 ^ i, x.1)) in
    let c = ap (λ m. signed d (phi (m, x.1))) (changed P i x.0 h w e) in
    omega (arith, ints)

lighter : (i : ℕ) (b : Bool) (s : List ((ℕ × Bool) × ℤ)) (y : ℕ × Bool) (d : ℕ) → weight_of s ≤ i → weight_of (cond b s (plus_term word_order s y (signed d (pos 1)))) ≤ i + 1
lighter i true s y d h = omega arith
lighter i false s y d h = let a = weight_of-plus_term word_order s y (signed d (pos 1)) in let b = abs-signed d (pos 1) in omega arith

pub one-place : (P i : ℕ) (x : ℕ × Bool) (old new : List ((ℕ × Bool) × ℤ)) → i < P → x.0 < 2 ^ P → SumsTo P i x old → new ≡ with_place i x old → SumsTo P (i + 1) x new
one-place P i x old new h w k e =
    let m = x.0 in
    let v = letters i m in
    let l = m / 2 ^ i % 2 == 1 in
    let r = letters (P - suc i) (m / 2 ^ i / 2) in
    let next : i + 1 ≡ suc i = omega arith in
    let front : letters (i + 1) m ≡ v ++ (l ∷ []) = letters-split i 1 m in
    let back : letters (P - (i + 1)) (m / 2 ^ (i + 1)) ≡ r = (λ j. letters (P - next j) (m / 2 ^ next j)) ∙ ap (letters (P - suc i)) (halves m i) in
    let here : letters (P - i) (m / 2 ^ i) ≡ l ∷ r = (let q : P - i ≡ suc (P - suc i) = omega arith in ap (λ j. letters j (m / 2 ^ i)) q) in
    record {
      light = rw e (lighter i l old (m + 2 ^ i, x.1) (word_degree (letter_degree (parity x.1)) v) k.light);
      at = λ phi. ap (value_at phi) e
          ∙ placed P i x old phi h w l refl
          ∙ ap (λ z. z +ℤ cond l (pos 0) (signed (word_degree (letter_degree (parity x.1)) v) (phi (mask_of (v ++ (true ∷ r)), x.1)))) (k.at phi ∙ (λ j. value_at (λ u. phi (mask_of (u ++ here j), x.1)) (word_boundary (parity x.1) v)))
          ∙ sym (place-value (parity x.1) (λ u. phi (mask_of u, x.1)) v r l)
          ∙ (λ j. value_at (λ u. phi (mask_of (u ++ sym back j), x.1)) (word_boundary (parity x.1) (sym front j)));
    }

pub place-added : (i step : ℕ) (x : ℕ × Bool) (s : List ((ℕ × Bool) × ℤ)) (sign : ℤ) → step ≡ 2 ^ i → (x.0 / 2 ^ i % 2 == 1) ≡ false →
    sign ≡ signed (word_degree (letter_degree (parity x.1)) (letters i x.0)) (pos 1) → plus_term word_order s (x.0 + step, x.1) sign ≡ with_place i x s
place-added i step x s sign e b d =
    (λ j. plus_term word_order s (x.0 + e j, x.1) (d j))
    ∙ ap (λ l. cond l s (plus_term word_order s (x.0 + 2 ^ i, x.1) (signed (word_degree (letter_degree (parity x.1)) (letters i x.0)) (pos 1)))) (sym b)

-- ---- the turn
turned-letters : (k m : ℕ) → m < 2 ^ suc k → (l : Bool) → (m / 2 ^ k % 2 == 1) ≡ l →
    (m % 2 ^ k ≡ mask_of (letters k m)) × (m / 2 ^ k ≡ mask_of (l ∷ []))
turned-letters k m h l b =
    let v = letters k m in
    let next : k + 1 ≡ suc k = omega arith in
    let long : 2 ^ length v ≡ 2 ^ k = ap (λ j. 2 ^ j) (length-letters k m) in
    let low : mask_of v < 2 ^ k = subst (λ (j : ℕ). mask_of v < 2 ^ j) (length-letters k m) (mask-below v) in
    let some : 0 < 2 ^ k = omega arith in
    let whole : mask_of v + 2 ^ k * mask_of (l ∷ []) ≡ m =
    ap (λ j. mask_of v + j * mask_of (l ∷ [])) (sym long) ∙ sym (mask-append v (l ∷ []))
    ∙ ap (λ j. mask_of (v ++ (j ∷ []))) (sym b)
    ∙ ap mask_of (sym (letters-split k 1 m) ∙ ap (λ j. letters j m) next) ∙ mask-letters (suc k) m h in (
      ap (λ j. j % 2 ^ k) (sym whole) ∙ add-mul-mod_self_left (mask_of v) (2 ^ k) (mask_of (l ∷ [])) ∙ mod-eq_of_lt low,
      ap (λ j. j / 2 ^ k) (sym whole) ∙ add-mul-div_left (mask_of v) (mask_of (l ∷ [])) some ∙ ap (λ j. j + mask_of (l ∷ [])) (div-eq_of_lt low) ∙ omega arith,
    )

odd-letter : (odd l : Bool) → letter_count (not odd) l % 2 ≡ letter_degree (parity odd) l % 2
odd-letter false false = refl
odd-letter false true = refl
odd-letter true false = refl
odd-letter true true = refl

-- the turn, from the last letter and the mask of the letters before it
turn-at : (k m : ℕ) (odd l : Bool) (last before others : ℕ) → m < 2 ^ suc k → (m / 2 ^ k % 2 == 1) ≡ l → last ≡ m / 2 ^ k → before ≡ m % 2 ^ k → others ≡ word_degree (letter_count (not odd)) (letters k before) →
    ((2 * before + last, odd), signed (parity (letter_count (not odd) (last == 1) * others % 2 == 1)) (pos 1)) ≡ mask_turn (suc k) (m, odd)
turn-at k m odd l last before others h b e f o =
    let v = letters k m in
    let deg = letter_degree (parity odd) in
    let halves = turned-letters k m h l b in
    let low : before ≡ mask_of v = f ∙ halves.0 in
    let high : last ≡ mask_of (l ∷ []) = e ∙ halves.1 in
    let same : letters k before ≡ v = ap (letters k) low ∙ (λ i. letters (sym (length-letters k m) i) (mask_of v)) ∙ letters-mask v in
    let top : (last == 1) ≡ l = ap (λ j. j == 1) high ∙ top-bit l in
    let next : k + 1 ≡ suc k = omega arith in
    let word : letters (suc k) m ≡ v ++ (l ∷ []) = ap (λ j. letters j m) (sym next) ∙ letters-split k 1 m ∙ ap (λ j. v ++ (j ∷ [])) b in
    let turned : word_turn deg (letters (suc k) m) ≡ (l ∷ v, signed (deg l * word_degree deg v) (pos 1)) = ap (word_turn deg) word ∙ turn-end deg l v in
    let mask : 2 * before + last ≡ mask_of (l ∷ v) = (λ i. 2 * low i + high i) ∙ front-bit l v in
    let count : others ≡ word_degree (letter_count (not odd)) v = o ∙ ap (word_degree (letter_count (not odd))) same in
    let parities : (letter_count (not odd) (last == 1) * others) % 2 ≡ (deg l * word_degree deg v) % 2 =
    (λ i. (letter_count (not odd) (top i) * count i) % 2)
    ∙ mul-mod (letter_count (not odd) l) (word_degree (letter_count (not odd)) v) 2
    ∙ (λ i. (odd-letter odd l i * odd-letters odd v i) % 2)
    ∙ sym (mul-mod (deg l) (word_degree deg v) 2) in
    let sign : signed (parity (letter_count (not odd) (last == 1) * others % 2 == 1)) (pos 1) ≡ signed (deg l * word_degree deg v) (pos 1) =
    sign-parity (letter_count (not odd) (last == 1) * others) (deg l * word_degree deg v) (letter_count (not odd) (last == 1) * others % 2 == 1) parities refl in
    (λ i. ((mask i, odd), sign i)) ∙ (λ i. ((mask_of (sym turned i).0, odd), (sym turned i).1))
  where
    top-bit : (l : Bool) → (mask_of (l ∷ []) == 1) ≡ l
    top-bit false = refl
    top-bit true = refl

    front-bit : (l : Bool) (v : List Bool) → 2 * mask_of v + mask_of (l ∷ []) ≡ mask_of (l ∷ v)
    front-bit false v = omega arith
    front-bit true v = omega arith

pub turn-steps : (P : ℕ) (x : ℕ × Bool) (last before others : ℕ) → IsWord P x → last ≡ x.0 / 2 ^ (P - 1) → before ≡ x.0 % 2 ^ (P - 1) → others ≡ word_degree (letter_count (not x.1)) (letters (P - 1) before) →
    ((2 * before + last, x.1), signed (parity (letter_count (not x.1) (last == 1) * others % 2 == 1)) (pos 1)) ≡ mask_turn P x
turn-steps zero x last before others w e f o = absurd (let s = w.some in omega arith)
turn-steps (suc k) x last before others w e f o =
    let q : suc k - 1 ≡ k = omega arith in
    turn-at k x.0 x.1 (x.0 / 2 ^ k % 2 == 1) last before others w.within refl (e ∙ ap (λ j. x.0 / 2 ^ j) q) (f ∙ ap (λ j. x.0 % 2 ^ j) q) (o ∙ ap (λ j. word_degree (letter_count (not x.1)) (letters j before)) q)
