-- The staircase of words.
use Rattle.std.proofs.{Common.{◌≡◌, ℕ, zero, suc, ◌-◌, ◌*◌, ◌%◌, ◌≤◌, true, false, Bool, List, [], ◌∷◌, ◌++◌, length, refl, sym, ◌∙◌, ap, arith, length-append, ◌⊎◌, inl, inr, subst, ℤ, pos, ◌+ℤ◌, ◌*ℤ◌}, Math.IntN.{zero-*ℤ, suc_ℤ-*ℤ, *ℤ_comm}, lemmas.Int.ints}
use Rattle.signed_sum.{proofs.Names.{signed-parity, signed-zero, bound-false, bound-true}, specs.Names.signed}
use Rattle.simplicial_law.{proofs.Names.{CongruentInt-neg, CongruentInt-signed, CongruentInt-sum, CongruentInt_from, CongruentInt_multiple, CongruentInt_of, CongruentInt_refl, CongruentInt_sym, CongruentInt_trans, sign-two}, specs.Names.CongruentInt}
use Rattle.linear_law.proofs.Names.{length-copies}
use Rattle.steenrod_law.{proofs.AdditiveMaps.{adds-signed, adds-zero}, proofs.Primes.prime_of_field, proofs.WordLemmas.{bound-step, homotopy, step-step, step-sum}, specs.Names.{StaircaseLaw, sum_to, choice, contraction, copies, letter_degree, norm, staircase, step, turn_back, turn_back_less_one, turn_back_power, boundary_value, word_degree}}

-- h and g agree modulo p on the words that are On
abbrev pub AlikeOn : (List Bool → Type 0) → ℕ → (List Bool → ℤ) → (List Bool → ℤ) → Type 0
AlikeOn On p h g = (w : List Bool) → On w → CongruentInt p (h w) (g w)

-- on words of m letters
abbrev pub Alike : ℕ → ℕ → (List Bool → ℤ) → (List Bool → ℤ) → Type 0
Alike p m h g = AlikeOn (λ w. length w ≡ m) p h g

-- what is made of turns that keep agreement keeps it
module _ (On : List Bool → Type 0) (p : ℕ) (deg into : Bool → ℕ) (back : (h g : List Bool → ℤ) → AlikeOn On p h g → AlikeOn On p (turn_back deg h) (turn_back into g)) where
  powers-alike : (k : ℕ) (h g : List Bool → ℤ) → AlikeOn On p h g → AlikeOn On p (turn_back_power deg k h) (turn_back_power into k g)
  powers-alike zero h g a = a
  powers-alike (suc k) h g a = back (turn_back_power deg k h) (turn_back_power into k g) (powers-alike k h g a)

  pub norms-alike : (k : ℕ) (h g : List Bool → ℤ) → AlikeOn On p h g → AlikeOn On p (norm deg k h) (norm into k g)
  norms-alike zero h g a w e = CongruentInt_refl (pos 0)
  norms-alike (suc k) h g a w e = CongruentInt-sum (norms-alike k h g a w e) (powers-alike k h g a w e)

  pub steps-alike : (k r : ℕ) (h g : List Bool → ℤ) → AlikeOn On p h g → AlikeOn On p (step deg k r h) (step into k r g)
  steps-alike k r h g a w e = go (r % 2)
    where
      go : (c : ℕ) → CongruentInt p (choice c (norm deg k h w) (turn_back_less_one deg h w)) (choice c (norm into k g w) (turn_back_less_one into g w))
      go zero = norms-alike k h g a w e
      go (suc c) = CongruentInt-sum (back h g a w e) (CongruentInt-neg (a w e))

pub back-alike : (p : ℕ) (deg : Bool → ℕ) (m : ℕ) (h g : List Bool → ℤ) → Alike p m h g → Alike p m (turn_back deg h) (turn_back deg g)
back-alike p deg m h g a [] e = a [] e
back-alike p deg m h g a (l ∷ w) e = CongruentInt-signed (deg l * word_degree deg w) (a (w ++ (l ∷ [])) (let q = length-append w (l ∷ []) in omega arith))

pub minus-alike : (p : ℕ) (deg : Bool → ℕ) (m : ℕ) (h g : List Bool → ℤ) → Alike p m h g → Alike p m (turn_back_less_one deg h) (turn_back_less_one deg g)
minus-alike p deg m h g a w e = CongruentInt-sum (back-alike p deg m h g a w e) (CongruentInt-neg (a w e))

pub norm-alike : (p : ℕ) (deg : Bool → ℕ) (m k : ℕ) (h g : List Bool → ℤ) → Alike p m h g → Alike p m (norm deg k h) (norm deg k g)
norm-alike p deg m = norms-alike (λ w. length w ≡ m) p deg deg (back-alike p deg m)

step-alike : (p : ℕ) (deg : Bool → ℕ) (m k r : ℕ) (h g : List Bool → ℤ) → Alike p m h g → Alike p m (step deg k r h) (step deg k r g)
step-alike p deg m = steps-alike (λ w. length w ≡ m) p deg deg (back-alike p deg m)

shorten-alike : (p m : ℕ) (h g : List Bool → ℤ) → Alike p m h g → Alike p m (contraction h) (contraction g)
shorten-alike p m h g a [] e = CongruentInt_refl (pos 0)
shorten-alike p m h g a (false ∷ w) e = CongruentInt_refl (pos 0)
shorten-alike p m h g a (true ∷ w) e = a (false ∷ w) e

shorten-sum : (h g : List Bool → ℤ) (w : List Bool) → contraction (λ v. h v +ℤ g v) w ≡ contraction h w +ℤ contraction g w
shorten-sum h g [] = refl
shorten-sum h g (false ∷ w) = refl
shorten-sum h g (true ∷ w) = refl

pub copies-end : {A : Type 0} (k : ℕ) (a : A) → copies k a ++ (a ∷ []) ≡ a ∷ copies k a
copies-end zero a = refl
copies-end (suc k) a = ap (λ w. a ∷ w) (copies-end k a)

pub even-times : (a b : ℕ) → b % 2 ≡ 0 → (a * b) % 2 ≡ 0
even-times zero b e = omega arith
even-times (suc a) b e = let h = even-times a b e in omega arith

-- p letters of one degree are turned without a sign
pub sign-turn : (p k a : ℕ) (z : ℤ) → (p ≡ 2) ⊎ (p % 2 ≡ 1) → suc k ≡ p → CongruentInt p (signed (a * (k * a)) z) z
sign-turn p k a z (inl e) q = subst (λ (r : ℕ). CongruentInt r (signed (a * (k * a)) z) z) (sym e) (sign-two (a * (k * a)) z)
sign-turn p k a z (inr e) q =
    let ev = even-times a (a * k) (even-times a k (omega arith)) in
    let sw : a * (k * a) ≡ a * (a * k) = omega arith in
    CongruentInt_of (ap (λ n. signed n z) sw ∙ signed-parity (a * (a * k)) 0 z ev)

pub degree-copies : (deg : Bool → ℕ) (k : ℕ) (l : Bool) → word_degree deg (copies k l) ≡ k * deg l
degree-copies deg zero l = omega arith
degree-copies deg (suc k) l = let h = degree-copies deg k l in omega arith

-- steps on the word `true .. true`
module _ (p : ℕ) (deg : Bool → ℕ) (prime : (p ≡ 2) ⊎ (p % 2 ≡ 1)) (k : ℕ) (size : suc k ≡ p) (g : List Bool → ℤ) where
  top-back : (h : List Bool → ℤ) → CongruentInt p (turn_back deg h (copies (suc k) true)) (h (copies (suc k) true))
  top-back h =
      CongruentInt_trans
      (CongruentInt_of (λ i. signed (deg true * degree-copies deg k true i) (h (copies-end k true i))))
      (sign-turn p k (deg true) (h (copies (suc k) true)) prime size)

  top-power : (j : ℕ) → CongruentInt p (turn_back_power deg j g (copies (suc k) true)) (g (copies (suc k) true))
  top-power zero = CongruentInt_refl (g (copies (suc k) true))
  top-power (suc j) = CongruentInt_trans (top-back (turn_back_power deg j g)) (top-power j)

  top-norm : (j : ℕ) → CongruentInt p (norm deg j g (copies (suc k) true)) (pos j *ℤ g (copies (suc k) true))
  top-norm zero = CongruentInt_of (sym (zero-*ℤ (g (copies (suc k) true))))
  top-norm (suc j) =
      let z : ℤ = g (copies (suc k) true) in
      CongruentInt_trans
      (CongruentInt-sum (top-norm j) (top-power j))
      (CongruentInt_of (sym (suc_ℤ-*ℤ (pos j) z)))

  pub top-step : (m : ℕ) → CongruentInt p (step deg p m g (copies (suc k) true)) (pos 0)
  top-step m = go (m % 2)
    where
      go : (c : ℕ) → CongruentInt p (choice c (norm deg p g (copies (suc k) true)) (turn_back_less_one deg g (copies (suc k) true))) (pos 0)
      go zero =
          let z : ℤ = g (copies (suc k) true) in
          CongruentInt_trans (top-norm p)
          (CongruentInt_trans (CongruentInt_of (*ℤ_comm (pos p) z)) (CongruentInt_multiple p z))
      go (suc c) = CongruentInt_from (top-back g) (omega (arith, ints))

module _ (p n : ℕ) (prime : (p ≡ 2) ⊎ (p % 2 ≡ 1)) (two : 2 ≤ p) (d : ℕ) where
  pub stair-sum : (j : ℕ) (h g : List Bool → ℤ) → staircase p n d j (λ w. h w +ℤ g w) ≡ staircase p n d j h +ℤ staircase p n d j g
  stair-sum zero h g = refl
  stair-sum (suc j) h g =
      ap (λ f. staircase p n d j (step (letter_degree n) p (d - j) f)) (λ i w. shorten-sum h g w i)
      ∙ ap (staircase p n d j) (λ i w. step-sum (letter_degree n) p (d - j) (contraction h) (contraction g) w i)
      ∙ stair-sum j (step (letter_degree n) p (d - j) (contraction h)) (step (letter_degree n) p (d - j) (contraction g))

  pub stair-alike : (j : ℕ) (h g : List Bool → ℤ) → Alike p p h g → CongruentInt p (staircase p n d j h) (staircase p n d j g)
  stair-alike zero h g a = a (false ∷ copies (p - 1) true) (let e = length-copies (p - 1) true in omega arith)
  stair-alike (suc j) h g a = stair-alike j (step (letter_degree n) p (d - j) (contraction h)) (step (letter_degree n) p (d - j) (contraction g)) (step-alike p (letter_degree n) p p (d - j) (contraction h) (contraction g) (shorten-alike p p h g a))

  stair-none : (j : ℕ) (h : List Bool → ℤ) → Alike p p h (λ w. pos 0) → CongruentInt p (staircase p n d j h) (pos 0)
  stair-none j h e =
      CongruentInt_trans
      (stair-alike j h (λ w. pos 0) e)
      (CongruentInt_of (adds-zero (staircase p n d j) (stair-sum j)))

  bound-top : (k : ℕ) (h : List Bool → ℤ) → boundary_value n h (copies k true) ≡ pos 0
  bound-top zero h = refl
  bound-top (suc k) h = bound-true n h (copies k true) ∙ ap (signed (suc n)) (bound-top k (λ v. h (true ∷ v))) ∙ signed-zero (suc n)

  first-bound : (k : ℕ) (h : List Bool → ℤ) → boundary_value n h (false ∷ copies k true) ≡ h (copies (suc k) true)
  first-bound k h = let a = bound-false n h (copies k true) in let z = ap (signed n) (bound-top k (λ v. h (false ∷ v))) ∙ signed-zero n in omega (arith, ints)

  rise : (j : ℕ) → ((g : List Bool → ℤ) → CongruentInt p (staircase p n d j (boundary_value n (step (letter_degree n) p (d - j) g))) (pos 0)) → (h : List Bool → ℤ) →
      CongruentInt p (staircase p n d (suc j) (boundary_value n h)) (staircase p n d j (step (letter_degree n) p (d - j) h))
  rise j below h =
      let f : (List Bool → ℤ) → ℤ = λ g. staircase p n d j (step (letter_degree n) p (d - j) g) in
      let f-sum : f (λ w. contraction (boundary_value n h) w +ℤ boundary_value n (contraction h) w) ≡ f (contraction (boundary_value n h)) +ℤ f (boundary_value n (contraction h)) =
      ap (staircase p n d j) (λ i w. step-sum (letter_degree n) p (d - j) (contraction (boundary_value n h)) (boundary_value n (contraction h)) w i)
      ∙ stair-sum j (step (letter_degree n) p (d - j) (contraction (boundary_value n h))) (step (letter_degree n) p (d - j) (boundary_value n (contraction h))) in
      let one : CongruentInt p (f (λ w. contraction (boundary_value n h) w +ℤ boundary_value n (contraction h) w)) (f h) =
      stair-alike j (step (letter_degree n) p (d - j) (λ w. contraction (boundary_value n h) w +ℤ boundary_value n (contraction h) w)) (step (letter_degree n) p (d - j) h)
      (step-alike p (letter_degree n) p p (d - j) (λ w. contraction (boundary_value n h) w +ℤ boundary_value n (contraction h) w) h (λ w e. CongruentInt_of (whole w e))) in
      let e : f (boundary_value n (contraction h)) ≡ staircase p n d j (boundary_value n (step (letter_degree n) p (d - j) (contraction h))) = sym (ap (staircase p n d j) (λ i w. bound-step n p (d - j) (contraction h) w i)) in
      let rest = below (contraction h) in
      let rest2 : CongruentInt p (f (boundary_value n (contraction h))) (pos 0) = CongruentInt_trans (CongruentInt_of e) rest in
      CongruentInt_from
      (CongruentInt-sum one (CongruentInt-neg rest2))
      (omega (arith, ints))
    where
      whole : (w : List Bool) → length w ≡ p → contraction (boundary_value n h) w +ℤ boundary_value n (contraction h) w ≡ h w
      whole [] e = absurd (omega (arith, e, two))
      whole (l ∷ w) e = homotopy n h l w

  -- the boundary of a stair is the step of the one before it
  pub climb : (j : ℕ) → suc j ≤ d → (h : List Bool → ℤ) → CongruentInt p (staircase p n d (suc j) (boundary_value n h)) (staircase p n d j (step (letter_degree n) p (d - j) h))
  climb zero le h =
      rise zero
      (λ g.
      let size : suc (p - 1) ≡ p = omega arith in
      CongruentInt_trans
      (CongruentInt_of (first-bound (p - 1) (step (letter_degree n) p (d - 0) g)))
      (top-step p (letter_degree n) prime (p - 1) size g (d - 0)))
      h
  climb (suc i) le h =
      rise (suc i)
      (λ g.
      let m : ℕ = d - suc i in
      let e : d - i ≡ suc m = omega arith in
      CongruentInt_trans
      (climb i (omega arith) (step (letter_degree n) p m g))
      (stair-none i (step (letter_degree n) p (d - i) (step (letter_degree n) p m g)) (λ w q. CongruentInt_of (ap (λ r. step (letter_degree n) p r (step (letter_degree n) p m g) w) e ∙ step-step (letter_degree n) p m g w q))))
      h

  -- V, with a boundary of its own dV and what the boundary of its sum gives, B
  module _ (V dV B : ℕ → List Bool → ℤ)
      (law : (m : ℕ) (w : List Bool) → length w ≡ p → CongruentInt p (boundary_value n (V m) w) (B m w +ℤ signed m (dV m w)))
      (up : (m : ℕ) (w : List Bool) → length w ≡ p → CongruentInt p (B (suc m) w) (step (letter_degree n) p (suc m) (V m) w))
      (base : (w : List Bool) → length w ≡ p → CongruentInt p (B 0 w) (pos 0)) where
    level-law : (j m : ℕ) → CongruentInt p (signed m (staircase p n d j (dV m)) +ℤ staircase p n d j (B m)) (staircase p n d j (boundary_value n (V m)))
    level-law j m =
        CongruentInt_trans
        (CongruentInt_of
        (ap (λ z. z +ℤ staircase p n d j (B m)) (sym (adds-signed (staircase p n d j) (stair-sum j) m (dV m))) ∙ sym (stair-sum j (λ w. signed m (dV m w)) (B m))))
        (stair-alike j (λ w. signed m (dV m w) +ℤ B m w) (boundary_value n (V m)) (λ w e. CongruentInt_from (CongruentInt_sym (law m w e)) (omega (arith, ints))))

    level : (j : ℕ) → j ≤ d → CongruentInt p (sum_to j (λ i. signed (d - i) (staircase p n d i (dV (d - i)))) +ℤ staircase p n d j (B (d - j))) (V d (copies p true))
    level zero le =
        let e : d - 0 ≡ d = omega arith in
        let size : suc (p - 1) ≡ p = omega arith in
        CongruentInt_trans
        (level-law zero (d - 0))
        (CongruentInt_of (first-bound (p - 1) (V (d - 0)) ∙ (λ i. V (e i) (copies (size i) true))))
    level (suc j) le =
        let m : ℕ = d - suc j in
        let e : d - j ≡ suc m = omega arith in
        let a : ℤ = sum_to j (λ i. signed (d - i) (staircase p n d i (dV (d - i)))) in
        let b : CongruentInt p (staircase p n d j (step (letter_degree n) p (d - j) (V m))) (staircase p n d j (B (d - j))) =
        stair-alike j (step (letter_degree n) p (d - j) (V m)) (B (d - j)) (λ w q. CongruentInt_sym (subst (λ (r : ℕ). CongruentInt p (B r w) (step (letter_degree n) p r (V m) w)) (sym e) (up m w q))) in
        let c : CongruentInt p (signed m (staircase p n d (suc j) (dV m)) +ℤ staircase p n d (suc j) (B m)) (staircase p n d j (B (d - j))) =
        CongruentInt_trans
        (level-law (suc j) m)
        (CongruentInt_trans (climb j le (V m)) b) in
        CongruentInt_trans
        (CongruentInt_from c (omega (arith, ints)))
        (level j (omega arith))

    -- the word `true .. true` is the boundary of the staircase
    pub whole-stair : CongruentInt p (V d (copies p true)) (sum_to d (λ i. signed (d - i) (staircase p n d i (dV (d - i)))))
    whole-stair =
        let e : d - d ≡ 0 = omega arith in
        let a : ℤ = sum_to d (λ i. signed (d - i) (staircase p n d i (dV (d - i)))) in
        let z = stair-none d (B (d - d)) (λ w q. subst (λ (r : ℕ). CongruentInt p (B r w) (pos 0)) (sym e) (base w q)) in
        CongruentInt_trans
        (CongruentInt_sym (level d (omega arith)))
        (CongruentInt_from z (omega (arith, ints)))

pub staircase_law : StaircaseLaw
staircase_law p n d j h field le =
    let prime = prime_of_field p field in
    climb p n prime.parity prime.two d j le h
