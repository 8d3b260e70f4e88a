-- The laws of the May operations on cochains of residues.
use Rattle.std.proofs.{Common.{◌≡◌, ℕ, zero, suc, ◌+◌, ◌*◌, ◌<◌, ◌≤◌, ◌-◌, inl, inr, ◌==◌, ◌&&◌, not, eqb, eq-eqb, Bool, true, false, cond, List, [], ◌∷◌, map, length, refl, sym, ◌∙◌, ap, arith, ℤ, pos, ◌+ℤ◌, ◌*ℤ◌, eqb-true}, Math.IntN.{pos-*ℤ-pos, *ℤ-zero}, Math.Nat.{pow-succ', pow-zero, zero-mod}, lemmas.Int.ints, lemmas.Bool.{false≢true, or_cases, or_left, or_right}, lemmas.List.length-map}
use Rattle.fp_field.specs.Element.{sign_power}
use Rattle.interval_cut_law.specs.Names.{operation_value}
use Rattle.linear_law.specs.Names.{Congruent, IsField, negated}
use Rattle.signed_sum.{proofs.Names.{is_degenerate-under, signed-zero, fun_ext}, specs.Names.{is_degenerate, signed}}
use Rattle.simplicial_law.{proofs.Names.{integral_congruence_law, negated_whole, CongruentInt-neg, CongruentInt-scale, CongruentInt-signed, CongruentInt-sum, CongruentInt_of, CongruentInt_sym, CongruentInt_trans}, specs.Names.{AgreesOnSimplices, Cochain, IsCocycle, coboundary, CongruentInt, integral_coboundary, no_cochain, IsSimplex}}
use Rattle.steenrod_law.{proofs.AdditiveMaps.{adds-zero, coboundary-sum}, proofs.Additivity.{additive, coboundary-faces, word_sum-same, word_sum-sum}, proofs.ClosedValues.closed, proofs.Complexes.{coboundary-residues, extended-coboundary, extended-cochain, extended-cocycle, extended-same, residue_cochain-same, weak-closed, weak_of_simplex}, proofs.Degrees.{of-upper, operation-size, orbit_sum-size, staircase_sum-size}, proofs.Faces.operation-map, proofs.Forms.{AreTerms, IsMayFamily, IsPrime, SurjectionTerm, operation_of, value_over, word_sum}, proofs.MayFamily.may_family, proofs.Primes.prime_of_field, proofs.Representatives.representatives, proofs.Scaling.scales, proofs.Staircase.{stair-alike, stair-sum}, proofs.ValuesOnFaces.{operation-mod, value-none-at}, proofs.WordBoundary.some, proofs.WordCochains.{over-same, over-sum}, specs.Names.{IsWeakSimplex, extended, may_operation, orbit_primitive, pull_back, residue, residue_cochain, staircase_primitive, orbit_sum, staircase_sum, sum_above, sum_to, sum_value, word_cochains, IsOrbitTable, staircase}}
use Rattle.table_reduction_law.specs.Names.{may_element}

-- the operation on cochains with whole values
abbrev pub whole_operation : ℕ → ℕ → (List ℕ → ℤ) → List ℕ → ℤ
whole_operation p d b = operation_of p (may_element p d) b

module _ (p : ℕ) (field : IsField p) where
  pub above_one : 1 < p
  above_one = field.large

  pub prime_here : IsPrime p
  prime_here = prime_of_field p field

  pub positive_here : 1 ≤ p
  positive_here = let l = field.large in omega arith

  pub family_here : IsMayFamily p (may_element p)
  family_here = may_family p positive_here

  pub value-same : (d q : ℕ) (a : Cochain) (s : List ℕ) → 1 ≤ length s → CongruentInt p (pos (may_operation p d q a s)) (whole_operation p d (extended q a) s)
  value-same d q a s h = residue_cochain-same p (whole_operation p d (extended q a)) s above_one h

  pub to_residues : {a b : ℕ} → CongruentInt p (pos a) (pos b) → Congruent p a b
  to_residues {a} {b} h = integral_congruence_law.residues p a b h

  pub vertices : (facets : List (List ℕ)) (n : ℕ) (s : List ℕ) → IsSimplex facets n s → 1 ≤ length s
  vertices facets n s k = let e = k.size in omega arith

  -- operations see the weak faces alone
  pub operation-faces : (d : ℕ) (facets : List (List ℕ)) (a b : List ℕ → ℤ) (s : List ℕ) → IsWeakSimplex facets s → 1 ≤ length s →
      ((f : List ℕ) → IsWeakSimplex facets f → CongruentInt p (a f) (b f)) → CongruentInt p (whole_operation p d a s) (whole_operation p d b s)
  operation-faces d facets a b s k h e = operation-mod p d (may_element p d) a b s (family_here.terms d) positive_here h (λ f w. e f (weak-closed facets f s w k))

  pub may_operation-closed : (facets : List (List ℕ)) (d q n : ℕ) (a : Cochain) → IsCocycle facets q p a → IsCocycle facets n p (may_operation p d q a)
  may_operation-closed facets d q n a z = record {
    at = λ s on. to_residues
        (CongruentInt_trans (CongruentInt_sym (coboundary-residues p (whole_operation p d (extended q a)) s above_one))
        (closed (IsWeakSimplex facets) p d q (may_element p) (extended q a) s (weak-closed facets) prime_here family_here (extended-cocycle facets q p a above_one z)
        (weak_of_simplex facets (n + 1) s on) (vertices facets (n + 1) s on)));
  }

  pub extended-scale : (q c : ℕ) (a : Cochain) (f : List ℕ) → extended q (λ t. c * a t) f ≡ pos c *ℤ extended q a f
  extended-scale q c a f = go (length f == suc q && not (is_degenerate f))
    where
      go : (b : Bool) → cond b (pos (c * a f)) (pos 0) ≡ pos c *ℤ cond b (pos (a f)) (pos 0)
      go true = sym (pos-*ℤ-pos c (a f))
      go false = sym (*ℤ-zero (pos c))

  pub scaling-law : (d q c : ℕ) (a : Cochain) (s : List ℕ) → 1 ≤ length s → Congruent p (may_operation p d q (λ t. c * a t) s) (c * may_operation p d q a s)
  scaling-law d q c a s h = to_residues
      (CongruentInt_trans (value-same d q (λ t. c * a t) s h)
      (CongruentInt_trans (CongruentInt_of (ap (λ g. whole_operation p d g s) (fun_ext (extended-scale q c a))))
      (CongruentInt_trans (scales p (may_element p d) c (extended q a) s prime_here)
      (CongruentInt_trans (CongruentInt-scale (pos c) (CongruentInt_sym (value-same d q a s h)))
      (CongruentInt_of (pos-*ℤ-pos c (may_operation p d q a s)))))))

  pub extended-add : (q : ℕ) (a c : Cochain) (f : List ℕ) → extended q (λ t. a t + c t) f ≡ extended q a f +ℤ extended q c f
  extended-add q a c f = go (length f == suc q && not (is_degenerate f))
    where
      go : (b : Bool) → cond b (pos (a f + c f)) (pos 0) ≡ cond b (pos (a f)) (pos 0) +ℤ cond b (pos (c f)) (pos 0)
      go true = omega (arith, ints)
      go false = refl

  pub sign-same : (d x : ℕ) → CongruentInt p (signed d (pos x)) (pos (sign_power p d * x))
  sign-same zero x = CongruentInt_of (ap pos (let e : sign_power p 0 * x ≡ 1 * x = ap (λ j. j * x) (pow-zero (negated p 1)) in omega arith))
  sign-same (suc d) x =
      let y : ℕ = sign_power p d * x in
      CongruentInt_trans (CongruentInt-neg (sign-same d x))
      (CongruentInt_trans (negated_whole p y above_one)
      (CongruentInt_of (ap pos (let e : sign_power p (suc d) * x ≡ (negated p 1 * sign_power p d) * x = ap (λ j. j * x) (pow-succ' (negated p 1) d) in omega arith))))

  pub additivity-law : (facets : List (List ℕ)) (d q n : ℕ) (ms : List (List Bool)) (a c : Cochain) → IsOrbitTable p ms → IsCocycle facets q p a → IsCocycle facets q p c →
      AgreesOnSimplices facets n p (may_operation p d q (λ t. a t + c t)) (λ s. may_operation p d q a s + may_operation p d q c s + sign_power p d * coboundary p (orbit_primitive p d q ms a c) s)
  additivity-law facets d q n ms a c orbits za zc = record { at = λ s on. to_residues (at s (vertices facets n s on) (weak_of_simplex facets n s on)) }
    where
      at : (s : List ℕ) → 1 ≤ length s → IsWeakSimplex facets s →
          CongruentInt p (pos (may_operation p d q (λ t. a t + c t) s)) (pos (may_operation p d q a s + may_operation p d q c s + sign_power p d * coboundary p (orbit_primitive p d q ms a c) s))
      at s h k =
          let x : ℕ = may_operation p d q a s in
          let y : ℕ = may_operation p d q c s in
          let w : ℕ = sign_power p d * coboundary p (orbit_primitive p d q ms a c) s in
          let split : pos (x + y + w) ≡ (pos x +ℤ pos y) +ℤ pos w = omega (arith, ints) in
          CongruentInt_trans (value-same d q (λ t. a t + c t) s h)
          (CongruentInt_trans (CongruentInt_of (ap (λ g. whole_operation p d g s) (fun_ext (extended-add q a c))))
          (CongruentInt_trans (additive (IsWeakSimplex facets) p d q (may_element p) ms (extended q a) (extended q c) s (weak-closed facets) prime_here family_here orbits (extended-cocycle facets q p a above_one za) (extended-cocycle facets q p c above_one zc) k h)
          (CongruentInt_trans (CongruentInt-sum (CongruentInt-sum (CongruentInt_sym (value-same d q a s h)) (CongruentInt_sym (value-same d q c s h)))
          (CongruentInt_trans (CongruentInt-signed d (coboundary-residues p (orbit_sum p d (may_element p) ms (extended q a) (extended q c)) s above_one)) (sign-same d (coboundary p (orbit_primitive p d q ms a c) s))))
          (CongruentInt_of (sym split)))))

  pub representative-law : (facets : List (List ℕ)) (d q n : ℕ) (y : Cochain) →
      AgreesOnSimplices facets n p (may_operation p d (q + 1) (coboundary p y)) (coboundary p (staircase_primitive p d q y))
  representative-law facets d q n y = record { at = λ s on. to_residues (at s (vertices facets n s on) (weak_of_simplex facets n s on)) }
    where
      e : q + 1 ≡ suc q
      e = omega arith

      at : (s : List ℕ) → 1 ≤ length s → IsWeakSimplex facets s → CongruentInt p (pos (may_operation p d (q + 1) (coboundary p y) s)) (pos (coboundary p (staircase_primitive p d q y) s))
      at s h k =
          CongruentInt_trans (CongruentInt_of (ap (λ j. pos (may_operation p d j (coboundary p y) s)) e))
          (CongruentInt_trans (value-same d (suc q) (coboundary p y) s h)
          (CongruentInt_trans (operation-faces d facets (extended (suc q) (coboundary p y)) (integral_coboundary (extended q y)) s k h (λ f w. extended-coboundary facets q p y f above_one w))
          (CongruentInt_trans (representatives p d q (may_element p) (extended q y) s prime_here family_here (extended-cochain q y) h)
          (coboundary-residues p (staircase_sum p q d (may_element p) (extended q y)) s above_one))))

  -- degrees

  pub residue-none : (b : List ℕ → ℤ) (s : List ℕ) → 1 ≤ length s → b s ≡ pos 0 → residue_cochain p b s ≡ 0
  residue-none b [] h e = absurd (omega arith)
  residue-none b (x ∷ s) h e = ap (residue p) e ∙ zero-mod p

  pub operation-degree : (facets : List (List ℕ)) (d q n : ℕ) (a : Cochain) (s : List ℕ) → IsSimplex facets n s → (n + d ≡ p * q → ⊥) → may_operation p d q a s ≡ 0
  operation-degree facets d q n a s k ne =
      let l = k.size in
      residue-none (whole_operation p d (extended q a)) s (vertices facets n s k)
      ((operation-size p d q (may_element p) (extended q a) prime_here family_here (extended-cochain q a)).other s (vertices facets n s k) (λ e. ne (omega arith)))

  pub orbit-degree : (facets : List (List ℕ)) (d q n : ℕ) (ms : List (List Bool)) (a c : Cochain) (s : List ℕ) → IsOrbitTable p ms → IsSimplex facets n s → (n + d + 1 ≡ p * q → ⊥) → orbit_primitive p d q ms a c s ≡ 0
  orbit-degree facets d q n ms a c s orbits k ne =
      let l = k.size in
      residue-none (orbit_sum p d (may_element p) ms (extended q a) (extended q c)) s (vertices facets n s k)
      ((orbit_sum-size p d q (may_element p) ms (extended q a) (extended q c) prime_here family_here orbits (extended-cochain q a) (extended-cochain q c)).other s (vertices facets n s k) (λ e. ne (omega arith)))

  pub staircase-degree : (facets : List (List ℕ)) (d q n : ℕ) (y : Cochain) (s : List ℕ) → IsSimplex facets n s → (n + d + 1 ≡ p * (q + 1) → ⊥) → staircase_primitive p d q y s ≡ 0
  staircase-degree facets d q n y s k ne =
      let l = k.size in
      let t : q + 1 ≡ suc q = omega arith in
      let m = ap (λ j. p * j) t in
      residue-none (staircase_sum p q d (may_element p) (extended q y)) s (vertices facets n s k)
      ((staircase_sum-size p d q (may_element p) (extended q y) prime_here family_here (extended-cochain q y)).other s (vertices facets n s k) (λ e. ne (omega arith)))

  -- complexes on which the cochains are 0

  zero-there : (facets : List (List ℕ)) (q : ℕ) (a : Cochain) → AgreesOnSimplices facets q p a no_cochain → (f : List ℕ) → IsWeakSimplex facets f → CongruentInt p (extended q a f) (pos 0)
  zero-there facets q a z f k = CongruentInt_trans (extended-same facets q p a no_cochain f z k) (CongruentInt_of (go (length f == suc q && not (is_degenerate f))))
    where
      go : (b : Bool) → cond b (pos 0) (pos 0) ≡ pos 0
      go true = refl
      go false = refl

  word-none : (facets : List (List ℕ)) (m : ℕ) (x : List SurjectionTerm) (a b : List ℕ → ℤ) (w : List Bool) (s : List ℕ) → AreTerms p m x → length w ≡ p → IsWeakSimplex facets s → 1 ≤ length s →
      ((f : List ℕ) → IsWeakSimplex facets f → CongruentInt p (a f) (pos 0)) → ((f : List ℕ) → IsWeakSimplex facets f → CongruentInt p (b f) (pos 0)) → CongruentInt p (sum_value p x (word_cochains a b w) s) (pos 0)
  word-none facets m x a b [] s t e k h za zb = absurd (let l = positive_here in omega (arith, l, e))
  word-none facets m x a b (l ∷ w) s t e k h za zb =
      CongruentInt_trans
      (over-same p m x (λ u. operation_value p u (word_cochains a b (l ∷ w)) s) (λ u. pos 0) t
      (λ u o c. value-none-at p p u s [] (word_cochains a b w) (cond l b a) (some p u positive_here o) h (λ f v. either l f (weak-closed facets f s v k))))
      (CongruentInt_of (adds-zero (value_over x) (over-sum x)))
    where
      either : (l : Bool) (f : List ℕ) → IsWeakSimplex facets f → CongruentInt p (cond l b a f) (pos 0)
      either true f q = zb f q
      either false f q = za f q

  pub orbit-subcomplex : (facets : List (List ℕ)) (d q n : ℕ) (ms : List (List Bool)) (a c : Cochain) → IsOrbitTable p ms →
      AgreesOnSimplices facets q p a no_cochain → AgreesOnSimplices facets q p c no_cochain → (s : List ℕ) → IsSimplex facets n s → Congruent p (orbit_primitive p d q ms a c s) 0
  orbit-subcomplex facets d q n ms a c orbits za zc s on =
      let h = vertices facets n s on in
      to_residues (CongruentInt_trans (residue_cochain-same p (orbit_sum p d (may_element p) ms (extended q a) (extended q c)) s above_one h)
      (CongruentInt_trans (word_sum-same p ms (λ w. sum_value p (sum_above p d (may_element p)) (word_cochains (extended q a) (extended q c) w) s) (λ w. pos 0) orbits.long
      (λ w e. word-none facets (suc d) (sum_above p d (may_element p)) (extended q a) (extended q c) w s (of-upper p d (may_element p) positive_here family_here) e (weak_of_simplex facets n s on) h (zero-there facets q a za) (zero-there facets q c zc)))
      (CongruentInt_of (adds-zero (word_sum ms) (word_sum-sum ms)))))

  coboundary-none : (facets : List (List ℕ)) (b : List ℕ → ℤ) → ((f : List ℕ) → IsWeakSimplex facets f → CongruentInt p (b f) (pos 0)) → (f : List ℕ) → IsWeakSimplex facets f → CongruentInt p (integral_coboundary b f) (pos 0)
  coboundary-none facets b z f k =
      CongruentInt_trans (coboundary-faces p f b (λ t. pos 0) (λ t w. z t (weak-closed facets t f w k))) (CongruentInt_of (adds-zero (λ c. integral_coboundary c f) (coboundary-sum f)))

  steps-none : (d : ℕ) (f : ℕ → ℤ) → ((j : ℕ) → CongruentInt p (f j) (pos 0)) → CongruentInt p (sum_to d f) (pos 0)
  steps-none zero f e = e 0
  steps-none (suc d) f e = CongruentInt-sum (steps-none d f e) (e (suc d))

  pub staircase-subcomplex : (facets : List (List ℕ)) (d q n : ℕ) (y : Cochain) → AgreesOnSimplices facets q p y no_cochain → (s : List ℕ) → IsSimplex facets n s → Congruent p (staircase_primitive p d q y s) 0
  staircase-subcomplex facets d q n y zy s on =
      let h = vertices facets n s on in
      let z = zero-there facets q y zy in
      let b : List ℕ → ℤ = integral_coboundary (extended q y) in
      to_residues (CongruentInt_trans (residue_cochain-same p (staircase_sum p q d (may_element p) (extended q y)) s above_one h)
      (steps-none d (λ j. signed (d - j) (staircase p q d j (λ w. sum_value p (may_element p (d - j)) (word_cochains (extended q y) b w) s)))
      (λ j. CongruentInt_trans (CongruentInt-signed (d - j)
      (CongruentInt_trans
      (stair-alike p q prime_here.parity prime_here.two d j (λ w. sum_value p (may_element p (d - j)) (word_cochains (extended q y) b w) s) (λ w. pos 0)
      (λ w e. word-none facets (d - j) (may_element p (d - j)) (extended q y) b w s (family_here.terms (d - j)) e (weak_of_simplex facets n s on) h z (coboundary-none facets (extended q y) z)))
      (CongruentInt_of (adds-zero (staircase p q d j) (stair-sum p q prime_here.parity prime_here.two d j)))))
      (CongruentInt_of (signed-zero (d - j))))))

-- pull-backs

pub pulled : (f : ℕ → ℕ) (q : ℕ) (a : Cochain) (g : List ℕ) → extended q a (map f g) ≡ extended q (pull_back f a) g
pulled f q a g =
    ap (λ n. cond ((n == suc q) && not (is_degenerate (map f g))) (pos (a (map f g))) (pos 0)) (length-map g f)
    ∙ go (length g == suc q) (is_degenerate g) (is_degenerate (map f g)) (a (map f g)) (is_degenerate-under f g)
  where
    go : (long d e : Bool) (n : ℕ) → (d ≡ true → e ≡ true) → cond (long && not e) (pos n) (pos 0) ≡ cond (long && not d) (pos (cond e 0 n)) (pos 0)
    go false d e n h = refl
    go true true true n h = refl
    go true true false n h = absurd (false≢true (h refl))
    go true false true n h = refl
    go true false false n h = refl

-- what the residues F of B give at an image, where B is 0 on degenerate lists
pub pulled-value : (p : ℕ) → IsField p → (f : ℕ → ℕ) (F : Cochain) (B : List ℕ → ℤ) (x : ℕ) (s : List ℕ) → CongruentInt p (pos x) (B (map f s)) →
    (is_degenerate (map f s) ≡ true → B (map f s) ≡ pos 0) → (is_degenerate (map f s) ≡ false → CongruentInt p (B (map f s)) (pos (F (map f s)))) → Congruent p x (pull_back f F s)
pulled-value p field f F B x s h nothing value = go (is_degenerate (map f s)) nothing value
  where
    go : (d : Bool) → (d ≡ true → B (map f s) ≡ pos 0) → (d ≡ false → CongruentInt p (B (map f s)) (pos (F (map f s)))) → Congruent p x (cond d 0 (F (map f s)))
    go true n r = to_residues p field (CongruentInt_trans h (CongruentInt_of (n refl)))
    go false n r = to_residues p field (CongruentInt_trans h (r refl))

pub pull_back-operation : (p : ℕ) → IsField p → (f : ℕ → ℕ) (d q : ℕ) (a : Cochain) (s : List ℕ) → 1 ≤ length s → Congruent p (may_operation p d q (pull_back f a) s) (pull_back f (may_operation p d q a) s)
pull_back-operation p field f d q a s h =
    pulled-value p field f (may_operation p d q a) (whole_operation p d (extended q a)) (may_operation p d q (pull_back f a) s) s
    (CongruentInt_trans (value-same p field d q (pull_back f a) s h)
    (CongruentInt_of (ap (λ g. whole_operation p d g s) (fun_ext (λ g. sym (pulled f q a g))) ∙ sym (operation-map f p d (may_element p) (extended q a) s (prime_here p field) (family_here p field) h))))
    ((operation-size p d q (may_element p) (extended q a) (prime_here p field) (family_here p field) (extended-cochain q a)).plain (map f s))
    (λ e. CongruentInt_sym (value-same p field d q a (map f s) (let l = length-map s f in omega arith)))
