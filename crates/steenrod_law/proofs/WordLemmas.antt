-- Words: turns, steps, boundaries and the contraction.
use Rattle.std.proofs.{Common.{◌≡◌, ℕ, zero, suc, ◌+◌, ◌*◌, ◌%◌, true, false, Bool, List, [], ◌∷◌, ◌++◌, length, take, drop, refl, sym, ◌∙◌, ap, arith, append_assoc, append-nil, length-drop, ℤ, pos, ◌+ℤ◌, ◌-ℤ◌, ◌*ℤ◌, neg_ℤ, length-take-le, take-append-drop}, lemmas.Int.ints}
use Rattle.signed_sum.{proofs.Names.{one-mul, signed-+, signed-parity, signed-signed, signed-zero, value_at-nothing, value_at-sub, value_at-sum, at_turn, at_turned, at_turned-end, bound-false, bound-true, bound-turn, bound-twice, degree-append, times-signed, turned-round as turned-whole, turns-through, two-even, whole-word}, specs.Names.{signed, value_at, power_sum, last_letter, letters_before_last, word_boundary, word_turn}}
use Rattle.steenrod_law.{proofs.AdditiveMaps.{adds-neg, adds-zero}, specs.Names.{WordLaws, boundary_value, choice, contraction, letter_degree, norm, step, turn_back, turn_back_less_one, turn_back_power, word_degree}}
use Rattle.table_reduction_law.proofs.PowerPairs.{sum_below}

module _ (deg : Bool → ℕ) where
  pub back-sum : (h g : List Bool → ℤ) (w : List Bool) → turn_back deg (λ v. h v +ℤ g v) w ≡ turn_back deg h w +ℤ turn_back deg g w
  back-sum h g [] = refl
  back-sum h g (l ∷ w) = signed-+ (deg l * word_degree deg w) (h (w ++ (l ∷ []))) (g (w ++ (l ∷ [])))

  -- T and N in turn give nothing
  pub power-back : (k : ℕ) (h : List Bool → ℤ) (w : List Bool) → turn_back_power deg k (turn_back deg h) w ≡ turn_back_power deg (suc k) h w
  power-back zero h w = refl
  power-back (suc k) h w = ap (λ g. turn_back deg g w) (λ i v. power-back k h v i)

  power-sum : (k : ℕ) (h g : List Bool → ℤ) (w : List Bool) → turn_back_power deg k (λ v. h v +ℤ g v) w ≡ turn_back_power deg k h w +ℤ turn_back_power deg k g w
  power-sum zero h g w = refl
  power-sum (suc k) h g w = ap (λ f. turn_back deg f w) (λ i v. power-sum k h g v i) ∙ back-sum (turn_back_power deg k h) (turn_back_power deg k g) w

  pub norm-minus : (k : ℕ) (h : List Bool → ℤ) (w : List Bool) → norm deg k (turn_back_less_one deg h) w ≡ turn_back_power deg k h w +ℤ neg_ℤ (h w)
  norm-minus zero h w = omega (arith, ints)
  norm-minus (suc k) h w =
      let a = norm-minus k h w in
      let b = power-sum k (turn_back deg h) (λ v. neg_ℤ (h v)) w in
      let c = adds-neg (λ f. turn_back_power deg k f w) (λ f g. power-sum k f g w) h in
      let d = power-back k h w in
      omega (arith, ints)

  back-norm : (k : ℕ) (h : List Bool → ℤ) (w : List Bool) → turn_back deg (norm deg k h) w +ℤ h w ≡ norm deg k h w +ℤ turn_back_power deg k h w
  back-norm zero h w = let z = adds-zero (λ f. turn_back deg f w) (λ f g. back-sum f g w) in omega (arith, ints)
  back-norm (suc k) h w =
      let a = back-norm k h w in
      let b = back-sum (norm deg k h) (turn_back_power deg k h) w in
      omega (arith, ints)

  pub minus-norm : (k : ℕ) (h : List Bool → ℤ) (w : List Bool) → turn_back_less_one deg (norm deg k h) w ≡ turn_back_power deg k h w +ℤ neg_ℤ (h w)
  minus-norm k h w = let a = back-norm k h w in omega (arith, ints)

  -- as many turns as there are letters change nothing
  power-through : (a b : List Bool) (h : List Bool → ℤ) (d : ℕ) → word_degree deg a + word_degree deg b ≡ d → turn_back_power deg (length a) h (a ++ b) ≡ signed (word_degree deg a * suc d) (h (b ++ a))
  power-through [] b h d e = ap h (sym (append-nil b)) ∙ signed-parity 0 (0 * suc d) (h (b ++ [])) (omega arith)
  power-through (l ∷ a) b h d e =
      let r : ℕ = word_degree deg (a ++ b) in
      let er = degree-append deg a b in
      let eb = degree-append deg b (l ∷ []) in
      let v = two-even (deg l) in
      let s : (deg l * r + word_degree deg a * suc d) % 2 ≡ ((deg l + word_degree deg a) * suc d) % 2 =
      (let q : deg l + r ≡ d = omega arith in even-step (deg l) (word_degree deg a) r d q v) in
      let ih = power-through a (b ++ (l ∷ [])) h d (omega arith) in
      ap (λ z. signed (deg l * r) (turn_back_power deg (length a) h z)) (append_assoc a b (l ∷ []))
      ∙ ap (signed (deg l * r)) (ih ∙ ap (λ z. signed (word_degree deg a * suc d) (h z)) (append_assoc b (l ∷ []) a))
      ∙ signed-signed (deg l * r) (word_degree deg a * suc d) (h (b ++ (l ∷ a)))
      ∙ signed-parity (deg l * r + word_degree deg a * suc d) ((deg l + word_degree deg a) * suc d) (h (b ++ (l ∷ a))) s
    where
      even-step : (l a r d : ℕ) → l + r ≡ d → (l * suc l) % 2 ≡ 0 → (l * r + a * suc d) % 2 ≡ ((l + a) * suc d) % 2
      even-step l a r d e v = let q : l * suc d ≡ l * r + l * suc l = ap (λ y. l * suc y) (sym e) ∙ omega arith in omega arith

  pub power-whole : (w : List Bool) (h : List Bool → ℤ) → turn_back_power deg (length w) h w ≡ h w
  power-whole w h =
      ap (turn_back_power deg (length w) h) (sym (append-nil w))
      ∙ power-through w [] h (word_degree deg w) (omega arith)
      ∙ signed-parity (word_degree deg w * suc (word_degree deg w)) 0 (h w) (two-even (word_degree deg w))

  pub norm-sum : (k : ℕ) (h g : List Bool → ℤ) (w : List Bool) → norm deg k (λ v. h v +ℤ g v) w ≡ norm deg k h w +ℤ norm deg k g w
  norm-sum zero h g w = refl
  norm-sum (suc k) h g w =
      let a = norm-sum k h g w in
      let b = power-sum k h g w in
      omega (arith, ints)

  pub minus-sum : (h g : List Bool → ℤ) (w : List Bool) → turn_back_less_one deg (λ v. h v +ℤ g v) w ≡ turn_back_less_one deg h w +ℤ turn_back_less_one deg g w
  minus-sum h g w = let a = back-sum h g w in omega (arith, ints)

  pub step-sum : (p m : ℕ) (h g : List Bool → ℤ) (w : List Bool) → step deg p m (λ v. h v +ℤ g v) w ≡ step deg p m h w +ℤ step deg p m g w
  step-sum p m h g w = go (m % 2)
    where
      go : (c : ℕ) → choice c (norm deg p (λ v. h v +ℤ g v) w) (turn_back_less_one deg (λ v. h v +ℤ g v) w) ≡ choice c (norm deg p h w) (turn_back_less_one deg h w) +ℤ choice c (norm deg p g w) (turn_back_less_one deg g w)
      go zero = norm-sum p h g w
      go (suc c) = minus-sum h g w

  -- a step and the one before it
  pub step-step : (p m : ℕ) (h : List Bool → ℤ) (w : List Bool) → length w ≡ p → step deg p (suc m) (step deg p m h) w ≡ pos 0
  step-step p m h w e = go (m % 2) (suc m % 2) (omega arith)
    where
      zero-minus : (k : ℕ) → length w ≡ k → turn_back_power deg k h w +ℤ neg_ℤ (h w) ≡ pos 0
      zero-minus k q = let z = ap (λ j. turn_back_power deg j h w) (sym q) ∙ power-whole w h in omega (arith, ints)

      go : (a b : ℕ) → a + b ≡ 1 → choice b (norm deg p (λ v. choice a (norm deg p h v) (turn_back_less_one deg h v)) w) (turn_back_less_one deg (λ v. choice a (norm deg p h v) (turn_back_less_one deg h v)) w) ≡ pos 0
      go zero zero q = absurd (omega (arith, q))
      go zero (suc b) q = minus-norm p h w ∙ zero-minus p e
      go (suc a) zero q = norm-minus p h w ∙ zero-minus p e
      go (suc a) (suc b) q = absurd (omega (arith, q))

  twice-signed : (n : ℕ) (z : ℤ) → signed n (signed n z) ≡ z
  twice-signed n z = signed-signed n n z ∙ signed-parity (n + n) 0 z (omega arith)

  -- the two turns are inverse
  pub there-back : (h : List Bool → ℤ) (w : List Bool) → turn_back deg (at_turned deg h) w ≡ h w
  there-back h [] = one-mul (h [])
  there-back h (l ∷ w) = ap (signed (deg l * word_degree deg w)) (at_turned-end deg h l w) ∙ twice-signed (deg l * word_degree deg w) (h (l ∷ w))

  pub back-there : (h : List Bool → ℤ) (w : List Bool) → at_turned deg (turn_back deg h) w ≡ h w
  back-there h [] = one-mul (h [])
  back-there h (l ∷ w) =
      let e = deg (last_letter l w) * word_degree deg (letters_before_last l w) in
      let whole = letters_before_last l w ++ (last_letter l w ∷ []) in
      times-signed e (signed e (h whole)) ∙ twice-signed e (h whole) ∙ ap h (whole-word l w)

  -- j turns are as good as the other inverse turns
  others-through : (a b : List Bool) (h : List Bool → ℤ) → at_turn (word_turn deg) (length b) h (a ++ b) ≡ turn_back_power deg (length a) h (a ++ b)
  others-through a b h =
      let d = word_degree deg a + word_degree deg b in
      let even = two-even d in
      let t = turns-through deg a b d refl in
      let parity : (word_degree deg b * suc d) % 2 ≡ (word_degree deg a * suc d) % 2 = (let s : word_degree deg a * suc d + word_degree deg b * suc d ≡ d * suc d = omega arith in omega arith) in
      (λ i. (t i).1 *ℤ h (t i).0)
      ∙ times-signed (word_degree deg b * suc d) (h (b ++ a))
      ∙ signed-parity (word_degree deg b * suc d) (word_degree deg a * suc d) (h (b ++ a)) parity
      ∙ sym (power-through a b h d refl)

  others : (j k : ℕ) (h : List Bool → ℤ) (w : List Bool) → length w ≡ j + k → at_turn (word_turn deg) j h w ≡ turn_back_power deg k h w
  others j k h w e =
      let a : length (take k w) ≡ k = length-take-le k w (omega arith) in
      let b : length (drop k w) ≡ j = length-drop k w ∙ omega arith in
      let whole = take-append-drop k w in
      (λ i. at_turn (word_turn deg) (sym b i) h (sym whole i)) ∙ others-through (take k w) (drop k w) h ∙ (λ i. turn_back_power deg (a i) h (whole i))

  pub norm-sum_below : (k : ℕ) (h : List Bool → ℤ) (w : List Bool) → norm deg k h w ≡ sum_below k (λ i. turn_back_power deg i h w)
  norm-sum_below zero h w = refl
  norm-sum_below (suc k) h w = ap (λ z. z +ℤ turn_back_power deg k h w) (norm-sum_below k h w)

  -- the first m turns, and the inverse turns that are not among them
  rounds : (h : List Bool → ℤ) (w : List Bool) (m e : ℕ) → e + m ≡ length w →
      value_at h (power_sum (word_turn deg) m w) +ℤ sum_below (suc e) (λ i. turn_back_power deg i h w) ≡ sum_below (suc (length w)) (λ i. turn_back_power deg i h w)
  rounds h w zero e q =
      let i : e ≡ length w = omega arith in
      let s = ap (λ j. sum_below (suc j) (λ i. turn_back_power deg i h w)) i in
      omega (arith, ints)
  rounds h w (suc m) e q = let r = rounds h w m (suc e) (omega arith) in let t = others m (suc e) h w (omega arith) in omega (arith, ints)

  pub turn-norm : (h : List Bool → ℤ) (w : List Bool) → value_at h (power_sum (word_turn deg) (length w) w) ≡ norm deg (length w) h w
  turn-norm h w =
      let r = rounds h w (length w) 0 (omega arith) in
      let d = power-whole w h in
      let e = norm-sum_below (length w) h w in
      omega (arith, ints)

module _ (n : ℕ) where
  -- the boundary goes past a turn
  bound-back : (h : List Bool → ℤ) (w : List Bool) → boundary_value n (turn_back (letter_degree n) h) w ≡ turn_back (letter_degree n) (boundary_value n h) w
  bound-back h w =
      let deg = letter_degree n in
      sym (there-back deg (boundary_value n (turn_back deg h)) w)
      ∙ ap (λ g. turn_back deg g w) (λ i v. bound-turn n (turn_back deg h) v i)
      ∙ ap (λ g. turn_back deg (boundary_value n g) w) (λ i v. back-there deg h v i)

  -- the boundary and the contraction
  pub homotopy : (h : List Bool → ℤ) (l : Bool) (w : List Bool) → contraction (boundary_value n h) (l ∷ w) +ℤ boundary_value n (contraction h) (l ∷ w) ≡ h (l ∷ w)
  homotopy h true w = let a = bound-false n h w in let b = bound-true n (contraction h) w in omega (arith, ints)
  homotopy h false w =
      let a = bound-false n (contraction h) w in
      let z = ap (signed n) (value_at-nothing (word_boundary n w)) ∙ signed-zero n in
      omega (arith, ints)

  bound-minus : (h : List Bool → ℤ) (w : List Bool) → boundary_value n (turn_back_less_one (letter_degree n) h) w ≡ turn_back_less_one (letter_degree n) (boundary_value n h) w
  bound-minus h w = value_at-sub (turn_back (letter_degree n) h) h (word_boundary n w) ∙ ap (λ z. z -ℤ boundary_value n h w) (bound-back h w)

  bound-power : (k : ℕ) (h : List Bool → ℤ) (w : List Bool) → boundary_value n (turn_back_power (letter_degree n) k h) w ≡ turn_back_power (letter_degree n) k (boundary_value n h) w
  bound-power zero h w = refl
  bound-power (suc k) h w = bound-back (turn_back_power (letter_degree n) k h) w ∙ ap (λ f. turn_back (letter_degree n) f w) (λ i v. bound-power k h v i)

  bound-norm : (k : ℕ) (h : List Bool → ℤ) (w : List Bool) → boundary_value n (norm (letter_degree n) k h) w ≡ norm (letter_degree n) k (boundary_value n h) w
  bound-norm zero h w = value_at-nothing (word_boundary n w)
  bound-norm (suc k) h w =
      let a = value_at-sum (norm (letter_degree n) k h) (turn_back_power (letter_degree n) k h) (word_boundary n w) in
      let b = bound-norm k h w in
      let c = bound-power k h w in
      omega (arith, ints)

  pub bound-step : (p m : ℕ) (h : List Bool → ℤ) (w : List Bool) → boundary_value n (step (letter_degree n) p m h) w ≡ step (letter_degree n) p m (boundary_value n h) w
  bound-step p m h w = go (m % 2)
    where
      go : (c : ℕ) → boundary_value n (λ v. choice c (norm (letter_degree n) p h v) (turn_back_less_one (letter_degree n) h v)) w ≡ choice c (norm (letter_degree n) p (boundary_value n h) w) (turn_back_less_one (letter_degree n) (boundary_value n h) w)
      go zero = bound-norm p h w
      go (suc c) = bound-minus h w

pub word_laws : WordLaws
word_laws = record {
  there_back = there-back;
  back_there = back-there;
  whole = turned-whole;
  norms = turn-norm;
  twice = bound-twice;
  turns = bound-turn;
  steps = bound-step;
  nothing = λ deg m h w. step-step deg (length w) m h w refl;
  contracts = homotopy;
}
