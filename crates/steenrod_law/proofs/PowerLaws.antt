-- Matrices of squares, powers and Bockstein powers.
use Rattle.std.proofs.{Common.{◌≡◌, ℕ, zero, suc, ◌+◌, ◌-◌, ◌*◌, ◌^◌, ◌<◌, Bool, List, [], ◌∷◌, refl, sym, ◌∙◌, ap, arith, ℤ, pos, ◌+ℤ◌, ◌*ℤ◌, neg_ℤ}, Math.IntN.pos-*ℤ-pos, Math.Nat.{pow-succ', pow-zero}, lemmas.Int.ints}
use Rattle.fp_field.{proofs.ServedLemmas.served_field, specs.Orbits.orbit_words, specs.Element.{IsScale, factorial, half}}
use Rattle.linear_law.{proofs.Names.{Congruent_mul, Congruent_of, Congruent_refl, Congruent_scale, Congruent_sym, Congruent_trans, two_field, related_matrix}, specs.Names.{CarriesRelated, Congruent, IsField, negated}}
use Rattle.signed_sum.proofs.Names.{mul-add, mul-neg, mul_assoc, one-mul}
use Rattle.simplicial_law.{proofs.Names.{bounds_close, coboundaries, cocycles, integral_congruence_law, CongruentInt_from, CongruentInt_of, CongruentInt_trans}, specs.Names.{AgreesOnSimplices, Cochain, IsCoboundary, IsCocycle, CongruentInt}}
use Rattle.steenrod_law.{proofs.ClassLaws.operation-linear, proofs.OperationLaws.to_residues, proofs.OrbitTables.orbit_words_law, proofs.Primes.prime_of_field, specs.Names.{SteenrodMatrixLaw, IsBocksteinPower, IsPower, IsSquare, may_operation, power_degree, scaled_operation, IsOrbitTable}}

module _ (p : ℕ) (field : IsField p) where
  -- products are cancelled factor by factor
  through : (a b : ℕ) (z : ℤ) → CongruentInt p (pos (a * b) *ℤ z) (pos 0) → CongruentInt p (pos a *ℤ (pos b *ℤ z)) (pos 0)
  through a b z h = CongruentInt_trans (CongruentInt_of (sym (ap (λ y. y *ℤ z) (sym (pos-*ℤ-pos a b)) ∙ mul_assoc (pos a) (pos b) z))) h

  factorial-cancel : (k : ℕ) (z : ℤ) → k < p → CongruentInt p (pos (factorial k) *ℤ z) (pos 0) → CongruentInt p z (pos 0)
  factorial-cancel zero z l h = CongruentInt_trans (CongruentInt_of (sym (one-mul z))) h
  factorial-cancel (suc k) z l h =
      factorial-cancel k z (omega arith)
      ((prime_of_field p field).cancel (suc k) (pos (factorial k) *ℤ z) (omega arith) l (through (suc k) (factorial k) z h))

  power-cancel : (f q : ℕ) → ((z : ℤ) → CongruentInt p (pos f *ℤ z) (pos 0) → CongruentInt p z (pos 0)) → (z : ℤ) → CongruentInt p (pos (f ^ q) *ℤ z) (pos 0) → CongruentInt p z (pos 0)
  power-cancel f zero c z h = CongruentInt_trans (CongruentInt_of (sym (ap (λ j. pos j *ℤ z) (pow-zero f) ∙ one-mul z))) h
  power-cancel f (suc q) c z h =
      power-cancel f q c z (c (pos (f ^ q) *ℤ z) (through f (f ^ q) z (CongruentInt_trans (CongruentInt_of (ap (λ j. pos j *ℤ z) (sym (pow-succ' f q)))) h)))

  pub scale-only : (q s c e : ℕ) → IsScale p q s c → IsScale p q s e → Congruent p c e
  scale-only q s c e h k =
      let X : ℕ = factorial (half p) ^ q in
      let w = integral_congruence_law.whole p (c * X) (e * X) (Congruent_trans h.product (Congruent_sym k.product)) in
      let a : pos X *ℤ pos c ≡ pos (c * X) = pos-*ℤ-pos X c ∙ ap pos (omega arith) in
      let b : pos X *ℤ pos e ≡ pos (e * X) = pos-*ℤ-pos X e ∙ ap pos (omega arith) in
      let d = mul-add (pos X) (pos c) (neg_ℤ (pos e)) in
      let n = mul-neg (pos X) (pos e) in
      let l = field.large in
      let z = power-cancel (factorial (half p)) q (λ z. factorial-cancel (half p) z (omega (arith, l))) (pos c +ℤ neg_ℤ (pos e)) (CongruentInt_from w (omega (arith, ints))) in
      to_residues p field (CongruentInt_from z (omega (arith, ints)))

  module _ (facets : List (List ℕ)) where
    carried : (n d c q : ℕ) (ms : List (List Bool)) (R : Cochain → Cochain → Type 0) → IsOrbitTable p ms → ((z b : Cochain) → R z b → AgreesOnSimplices facets n p b (scaled_operation p d c q z)) →
        CarriesRelated p (IsCocycle facets q p) (IsCoboundary facets q p) (IsCoboundary facets n p) R
    carried n d c q ms R orbits = related_matrix p field.large (coboundaries facets n p field.large) (cocycles facets q p field.large) (bounds_close facets q p field.large)
        (scaled_operation p d c q) (operation-linear p field facets d c q n ms orbits) R

    rescaled : (n d c e q : ℕ) (z b : Cochain) → Congruent p c e → AgreesOnSimplices facets n p b (scaled_operation p d c q z) → AgreesOnSimplices facets n p b (scaled_operation p d e q z)
    rescaled n d c e q z b h g = record { at = λ s on. Congruent_trans (g.at s on) (Congruent_mul h (Congruent_refl (may_operation p d q z s))) }

    pub power-as : (s q e : ℕ) (z b : Cochain) → IsScale p q s e → IsPower facets p s q z b → AgreesOnSimplices facets (q + 2 * s * (p - 1)) p b (scaled_operation p (power_degree p s q) e q z)
    power-as s q e z b k r = rescaled (q + 2 * s * (p - 1)) (power_degree p s q) r.scale e q z b (scale-only q s r.scale e r.is_scale k) r.value

    pub bockstein-as : (s q e : ℕ) (z b : Cochain) → IsScale p q s e → IsBocksteinPower facets p s q z b → AgreesOnSimplices facets (q + 2 * s * (p - 1) + 1) p b (scaled_operation p (power_degree p s q - 1) (negated p e) q z)
    bockstein-as s q e z b k r =
        rescaled (q + 2 * s * (p - 1) + 1) (power_degree p s q - 1) (negated p r.scale) (negated p e) q z b (Congruent_scale (p - 1) (scale-only q s r.scale e r.is_scale k)) r.value

pub steenrod_matrix_law : SteenrodMatrixLaw
steenrod_matrix_law = record {
  squares = λ facets k q zs bs us columns cocycles h g z b cs coordinates r.
      carried 2 two_field facets (q + k) (q - k) 1 q (orbit_words 2) (IsSquare facets k q) (orbit_words_law 2 refl)
      (λ z b r. record { at = λ s on. Congruent_trans (r.value.at s on) (Congruent_of (omega arith)) }) zs bs us columns cocycles h g z b cs coordinates r;
  powers = λ facets p s q zs bs us columns is_served cocycles h g z b cs coordinates r. (
      let field = served_field p is_served in
      carried p field facets (q + 2 * s * (p - 1)) (power_degree p s q) r.scale q (orbit_words p) (IsPower facets p s q) (orbit_words_law p is_served)
      (λ z b w. power-as p field facets s q r.scale z b r.is_scale w) zs bs us columns cocycles h g z b cs coordinates r);
  bockstein_powers = λ facets p s q zs bs us columns is_served cocycles h g z b cs coordinates r. (
      let field = served_field p is_served in
      carried p field facets (q + 2 * s * (p - 1) + 1) (power_degree p s q - 1) (negated p r.scale) q (orbit_words p) (IsBocksteinPower facets p s q) (orbit_words_law p is_served)
      (λ z b w. bockstein-as p field facets s q r.scale z b r.is_scale w) zs bs us columns cocycles h g z b cs coordinates r);
}
