-- The words with one letter `true`: the boundary of `false .. false` is the sum of all turns of `true false .. false`.
use Rattle.std.proofs.{Common.{◌≡◌, ℕ, zero, suc, ◌+◌, ◌*◌, ◌%◌, ◌≤◌, true, false, Bool, List, [], ◌∷◌, ◌++◌, refl, sym, ◌∙◌, ap, arith, ℤ, ◌+ℤ◌}, lemmas.Int.ints}
use Rattle.signed_sum.{proofs.Names.{signed-+, signed-parity, signed-signed, signed-zero, bound-false, degree-append}, specs.Names.signed}
use Rattle.steenrod_law.{proofs.Staircase.{copies-end, degree-copies, even-times}, specs.Names.{copies, letter_degree, norm, boundary_value, turn_back, turn_back_power, word_degree}}

-- j letters `false`, one letter `true` and r letters `false`
abbrev pub one_true : ℕ → ℕ → List Bool
one_true j r = copies j false ++ (true ∷ copies r false)

one_true-end : (j r : ℕ) → one_true j r ++ (false ∷ []) ≡ one_true j (suc r)
one_true-end zero r = ap (λ w. true ∷ w) (copies-end r false)
one_true-end (suc j) r = ap (λ w. false ∷ w) (one_true-end j r)

copies-front : (j : ℕ) (w : List Bool) → copies j false ++ (false ∷ w) ≡ copies (suc j) false ++ w
copies-front zero w = refl
copies-front (suc j) w = ap (λ v. false ∷ v) (copies-front j w)

module _ (n : ℕ) where
  one_true-degree : (j r : ℕ) → word_degree (letter_degree n) (one_true j r) ≡ suc ((suc (j + r)) * n)
  one_true-degree j r =
      let a = degree-append (letter_degree n) (copies j false) (true ∷ copies r false) in
      let b = degree-copies (letter_degree n) j false in
      let c = degree-copies (letter_degree n) r false in
      omega arith

  -- the first letter of a word with an odd number of letters goes to the end
  back-false : (h : List Bool → ℤ) (j r : ℕ) → suc (j + r) % 2 ≡ 0 → turn_back (letter_degree n) h (one_true (suc j) r) ≡ signed n (h (one_true j (suc r)))
  back-false h j r e =
      let m = even-times (n * n) (suc (j + r)) e in
      let d = one_true-degree j r in
      (λ i. signed (n * d i) (h (one_true-end j r i)))
      ∙ signed-parity (n * suc (suc (j + r) * n)) n (h (one_true j (suc r))) (let f : n * suc (suc (j + r) * n) ≡ (n * n) * suc (j + r) + n = omega arith in omega (arith, m, f))

  back-true : (h : List Bool → ℤ) (k : ℕ) → k % 2 ≡ 0 → turn_back (letter_degree n) h (one_true 0 k) ≡ h (one_true k 0)
  back-true h k e =
      let m = even-times (suc n * n) k e in
      let d = degree-copies (letter_degree n) k false in
      ap (λ j. signed (suc n * j) (h (one_true k 0))) d
      ∙ signed-parity (suc n * (k * n)) 0 (h (one_true k 0)) (let f : suc n * (k * n) ≡ (suc n * n) * k = omega arith in omega (arith, m, f))

  back-power : (h : List Bool → ℤ) (i j r : ℕ) → (i + j + r) % 2 ≡ 0 → turn_back_power (letter_degree n) i h (one_true (i + j) r) ≡ signed (n * i) (h (one_true j (i + r)))
  back-power h zero j r e =
      let a : zero + j ≡ j = omega arith in
      let b : zero + r ≡ r = omega arith in
      let c : n * zero ≡ 0 = omega arith in
      (λ t. h (one_true (a t) r)) ∙ (λ t. signed (sym c t) (h (one_true j (sym b t))))
  back-power h (suc i) j r e =
      let a : suc i + j ≡ suc (i + j) = omega arith in
      let b : i + suc r ≡ suc i + r = omega arith in
      let c : n + n * i ≡ n * suc i = omega arith in
      (λ t. turn_back_power (letter_degree n) (suc i) h (one_true (a t) r))
      ∙ back-false (turn_back_power (letter_degree n) i h) (i + j) r (let f : suc (i + j + r) ≡ suc i + j + r = omega arith in omega (arith, e, f))
      ∙ ap (signed n) (back-power h i j (suc r) (let f : i + j + suc r ≡ suc i + j + r = omega arith in omega (arith, e, f)))
      ∙ signed-signed n (n * i) (h (one_true j (i + suc r)))
      ∙ (λ t. signed (c t) (h (one_true j (b t))))

  -- the words with `true` behind j or more letters
  words_from : (List Bool → ℤ) → ℕ → ℕ → ℤ
  words_from h j zero = signed (n * j) (h (one_true j 0))
  words_from h j (suc r) = signed (n * j) (h (one_true j (suc r))) +ℤ words_from h (suc j) r

  boundary-words : (h : List Bool → ℤ) (j r : ℕ) → signed (n * j) (boundary_value n (λ v. h (copies j false ++ v)) (copies (suc r) false)) ≡ words_from h j r
  unfolding words_from
  boundary-words h j zero =
      let t : boundary_value n (λ v. h (copies j false ++ v)) (false ∷ []) ≡ h (one_true j 0) = (let f = bound-false n (λ v. h (copies j false ++ v)) [] in let e = signed-zero n in omega (arith, ints)) in
      ap (signed (n * j)) t
  boundary-words h j (suc r) =
      let c : n * j + n ≡ n * suc j = omega arith in
      let w : ℤ = boundary_value n (λ v. h (copies j false ++ (false ∷ v))) (copies (suc r) false) in
      ap (signed (n * j)) (bound-false n (λ v. h (copies j false ++ v)) (copies (suc r) false))
      ∙ signed-+ (n * j) (h (one_true j (suc r))) (signed n w)
      ∙ ap (λ z. signed (n * j) (h (one_true j (suc r))) +ℤ z)
      (signed-signed (n * j) n w
      ∙ (λ i. signed (c i) (boundary_value n (λ v. h (copies-front j v i)) (copies (suc r) false)))
      ∙ boundary-words h (suc j) r)

  norm-words : (h : List Bool → ℤ) (k j r : ℕ) → k % 2 ≡ 0 → j + r ≡ k → norm (letter_degree n) (suc (suc r)) h (one_true 0 k) ≡ h (one_true 0 k) +ℤ words_from h j r
  unfolding words_from
  norm-words h k j zero e d =
      let f : j ≡ k = omega arith in
      let a = back-true h k e in
      let b = signed-parity (n * k) 0 (h (one_true k 0)) (even-times n k e) in
      let c : signed (n * j) (h (one_true j 0)) ≡ h (one_true k 0) = (λ i. signed (n * f i) (h (one_true (f i) 0))) ∙ b in
      omega (arith, ints)
  norm-words h k j (suc r) e d =
      let ih = norm-words h k (suc j) r e (omega arith) in
      let f : k ≡ suc r + j = omega arith in
      let g : suc r + 0 ≡ suc r = omega arith in
      let i = back-true (turn_back_power (letter_degree n) (suc r) h) k e ∙ ap (λ m. turn_back_power (letter_degree n) (suc r) h (one_true m 0)) f ∙ back-power h (suc r) j 0 (omega (arith, e, f)) ∙ ap (λ m. signed (n * suc r) (h (one_true j m))) g in
      let m = even-times n k e in
      let o : n * k ≡ n * suc r + n * j = ap (λ m. n * m) f ∙ omega arith in
      let s = signed-parity (n * suc r) (n * j) (h (one_true j (suc r))) (omega (arith, m, o)) in
      omega (arith, ints)

  pub boundary-norm : (h : List Bool → ℤ) (k : ℕ) → 1 ≤ k → k % 2 ≡ 0 → boundary_value n h (copies (suc k) false) ≡ norm (letter_degree n) (suc k) h (one_true 0 k)
  unfolding words_from
  boundary-norm h zero l e = absurd (omega (arith, l))
  boundary-norm h (suc r) l e =
      let c : n * 0 ≡ 0 = omega arith in
      let b = boundary-words h 0 (suc r) in
      let f = norm-words h (suc r) 1 r e (omega arith) in
      sym (ap (λ m. signed m (boundary_value n h (copies (suc (suc r)) false))) c) ∙ b ∙ ap (λ m. signed m (h (one_true 0 (suc r))) +ℤ words_from h 1 r) c ∙ sym f
