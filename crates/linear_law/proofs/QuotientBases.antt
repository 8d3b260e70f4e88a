-- Bases of a space modulo a smaller one, from the pivots of the smaller one.
use Rattle.std.proofs.Common.{◌≡◌, ℕ, zero, suc, ◌+◌, ◌*◌, ◌-◌, ◌<◌, ◌≤◌, ◌⊎◌, List, map, length, arith, subst, inl, inr}
use Rattle.std.proofs.lemmas.Bool.{cases_lt}
use Rattle.linear_law.specs.Names.{Congruent, IsField, Each, AgreesOn, IsReduced, IsSubspace, combination, expansion, KernelVector, IsPivot, Skips, kernel_place}
use Rattle.linear_law.proofs.CongruenceLemmas.{Congruent_add, Congruent_from, Congruent_scale, Congruent_sym, Congruent_trans, add-negated}
use Rattle.linear_law.proofs.ListLemmas.{each_map}
use Rattle.linear_law.proofs.ReducedLemmas.{coefficients, coefficients_count, coefficients_small, combination_expanded, combination_vanishes, same_coefficients}
use Rattle.linear_law.proofs.LeadLemmas.{zero_if}

module _ (p n : ℕ) (field : IsField p) {B : (ℕ → ℕ) → Type 0} (in_b : IsSubspace p (λ x. x < n) B)
    (bound : ℕ → Type 0) (decide : (x : ℕ) → bound x ⊎ (bound x → ⊥)) (inside : (x : ℕ) → bound x → x < n)
    (pivots : (x : ℕ) → bound x → IsPivot p (λ x. x < n) (λ a b. a < b) B x)
    (whole : (x : ℕ) → IsPivot p (λ x. x < n) (λ a b. a < b) B x → bound x) where
  -- a member of B, less which z is zero at the places below m that are bound
  pub record Cleared (z : ℕ → ℕ) (m : ℕ) : Type 0 where
    pub member : ℕ → ℕ
    pub in_space : B member
    pub zero : (x : ℕ) → x < m → bound x → Congruent p (z x + (p - 1) * member x) 0

  pub clear : (z : ℕ → ℕ) (m : ℕ) → m ≤ n → Cleared z m
  clear z zero b = record { member = λ x. 0; in_space = in_b.zero_in; zero = λ x c. absurd (omega arith) }
  clear z (suc m) b =
      let c = clear z m (omega arith) in
      elim (decide m) [
        | inr free ↦ record {
          member = c.member;
          in_space = c.in_space;
          zero = λ x d is. elim (cases_lt x m) [
            | inl e ↦ c.zero x e is
            | inr e ↦ let q : x ≡ m = omega arith in absurd (free (subst bound q is))
          ];
        }
        | inl is ↦
            let u = pivots m is in
            let i = field.inverse (u.vector m) u.lead.nonzero in
            let k = (z m + (p - 1) * c.member m) * i.0 in
            let w : ℕ → ℕ = λ x. c.member x + k * u.vector x in
            record {
              member = w;
              in_space = in_b.plus k c.member u.vector c.in_space u.member;
              zero = λ x d here. elim (cases_lt x m) [
                | inl e ↦ Congruent_from (Congruent_add (c.zero x e here) (Congruent_scale ((p - 1) * k) (u.lead.least x (omega arith) e))) (omega arith)
                | inr e ↦
                    let q : m ≡ x = omega arith in
                    let P : ℕ → Type 0 = λ y. Congruent p (z y + (p - 1) * w y) 0 in
                    let a = z m + (p - 1) * c.member m in
                    subst P q (Congruent_from (Congruent_add (Congruent_scale ((p - 1) * a) i.1) (add-negated p a field.large)) (omega arith))
              ];
            }
      ]

  -- a member of B that is zero at the bound places is zero
  pub bound_zero : (w : ℕ → ℕ) → B w → Skips p bound w → AgreesOn p (λ x. x < n) w (λ x. 0)
  bound_zero w h s = zero_if p n w (λ t l. s.at t (whole t (record { vector = w; member = h; lead = l })))

  -- The classes: members of Z that are zero at the bound places and span what of Z is zero there.
  module _ {Z : (ℕ → ℕ) → Type 0} (in_z : IsSubspace p (λ x. x < n) Z) (b_in_z : (w : ℕ → ℕ) → B w → Z w)
      (classes : List KernelVector) (places : Each (λ k. k.place < n) classes)
      (reduced : IsReduced p kernel_place (λ k. k.vector) classes) (skips : Each (λ k. Skips p bound k.vector) classes)
      (spans : (w : ℕ → ℕ) → Z w → Skips p bound w → AgreesOn p (λ x. x < n) w (expansion kernel_place (λ k. k.vector) classes w)) where
    -- the values at the places of the classes, of what is left of z
    pub coordinates : (ℕ → ℕ) → List ℕ
    coordinates z = coefficients p kernel_place (λ (k : KernelVector). k.vector) (λ x. z x + (p - 1) * (clear z n (omega arith)).member x) classes

    pub coordinates_count : (z : ℕ → ℕ) → length (coordinates z) ≡ length classes
    unfolding coordinates
    coordinates_count z = coefficients_count p kernel_place (λ (k : KernelVector). k.vector) (λ x. z x + (p - 1) * (clear z n (omega arith)).member x) classes

    pub coordinates_small : (z : ℕ → ℕ) → Each (λ c. c < p) (coordinates z)
    unfolding coordinates
    coordinates_small z = coefficients_small p kernel_place (λ (k : KernelVector). k.vector) (λ x. z x + (p - 1) * (clear z n (omega arith)).member x) classes field.large

    pub coordinates_rest : (z : ℕ → ℕ) → Z z → B (λ x. z x + (p - 1) * combination (coordinates z) (map (λ (k : KernelVector). k.vector) classes) x)
    unfolding coordinates
    coordinates_rest z h =
        let c = clear z n (omega arith) in
        let w : ℕ → ℕ = λ x. z x + (p - 1) * c.member x in
        let e = spans w (in_z.plus (p - 1) z c.member h (b_in_z c.member c.in_space)) (record { at = λ x is. c.zero x (inside x is) is }) in
        in_b.alike (λ x. z x + (p - 1) * combination (coefficients p kernel_place (λ (k : KernelVector). k.vector) w classes) (map (λ (k : KernelVector). k.vector) classes) x) c.member
        (record {
          at = λ x on.
              Congruent_from
              (Congruent_add (Congruent_scale (p - 1) (Congruent_trans (combination_expanded p kernel_place (λ (k : KernelVector). k.vector) w classes x) (Congruent_sym (e.at x on))))
              (Congruent_add (add-negated p (z x) field.large) (Congruent_add (Congruent_scale (p - 1) (add-negated p (c.member x) field.large)) (Congruent_sym (add-negated p (c.member x) field.large)))))
              (omega arith);
        })
        c.in_space

    pub coordinates_only : (z : ℕ → ℕ) (cs ds : List ℕ) → length cs ≡ length classes → length ds ≡ length classes → Each (λ c. c < p) cs → Each (λ d. d < p) ds
        → B (λ x. z x + (p - 1) * combination cs (map (λ (k : KernelVector). k.vector) classes) x)
        → B (λ x. z x + (p - 1) * combination ds (map (λ (k : KernelVector). k.vector) classes) x) → cs ≡ ds
    coordinates_only z cs ds m l u v hc hd =
        let f : ℕ → ℕ = λ x. z x + (p - 1) * combination cs (map (λ (k : KernelVector). k.vector) classes) x in
        let g : ℕ → ℕ = λ x. z x + (p - 1) * combination ds (map (λ (k : KernelVector). k.vector) classes) x in
        let none : (es : List ℕ) (x : ℕ) → bound x → Congruent p (combination es (map (λ (k : KernelVector). k.vector) classes) x) 0 =
        λ es x is. combination_vanishes p kernel_place (λ (k : KernelVector). k.vector) x es classes (each_map (λ k s. s.at x is) classes skips) in
        let same = bound_zero (λ x. f x + (p - 1) * g x) (in_b.plus (p - 1) f g hc hd)
        (record { at = λ x is. Congruent_from (Congruent_add (add-negated p (z x) field.large) (Congruent_add (Congruent_scale (p - 1) (none cs x is)) (Congruent_scale ((p - 1) * (p - 1)) (none ds x is)))) (omega arith) }) in
        same_coefficients p kernel_place (λ (k : KernelVector). k.vector) cs ds classes m l u v reduced
        (each_map
        (λ r on.
        let a = combination cs (map (λ (k : KernelVector). k.vector) classes) r.place in
        let b = combination ds (map (λ (k : KernelVector). k.vector) classes) r.place in
        Congruent_from
        (Congruent_add (Congruent_sym (same.at r.place on))
        (Congruent_add (add-negated p (z r.place) field.large)
        (Congruent_add (add-negated p a field.large)
        (Congruent_add (Congruent_scale (p - 1) (add-negated p b field.large)) (Congruent_sym (add-negated p b field.large))))))
        (omega arith))
        classes places)
