-- Functionals that take sums to sums.
use Rattle.std.proofs.{Common.{◌≡◌, ℕ, zero, suc, List, [], ◌∷◌, refl, sym, ◌∙◌, ap, arith, ℤ, pos, negsuc, ◌+ℤ◌, ◌*ℤ◌, ◌-ℤ◌, neg_ℤ}, Math.IntN.{zero-*ℤ, suc_ℤ-*ℤ, pred_ℤ-*ℤ, +ℤ_invr}, lemmas.Int.ints}
use Rattle.signed_sum.{proofs.Names.without_one-sum, specs.Names.{unless_empty, signed, without_one}}
use Rattle.simplicial_law.specs.Names.{integral_coboundary}
use Rattle.steenrod_law.{proofs.Forms.{SurjectionTerm, value_over}, specs.Names.sum_to}

module _ {A : Type 0} (F : (A → ℤ) → ℤ) (adds : (h g : A → ℤ) → F (λ a. h a +ℤ g a) ≡ F h +ℤ F g) where
  pub adds-zero : F (λ a. pos 0) ≡ pos 0
  adds-zero = let e = adds (λ a. pos 0) (λ a. pos 0) in omega (arith, ints)

  pub adds-neg : (h : A → ℤ) → F (λ a. neg_ℤ (h a)) ≡ neg_ℤ (F h)
  adds-neg h =
      let e = adds h (λ a. neg_ℤ (h a)) in
      let z : F (λ a. h a +ℤ neg_ℤ (h a)) ≡ pos 0 = ap F (λ i a. +ℤ_invr (h a) i) ∙ adds-zero in
      omega (arith, ints)

  pub adds-signed : (n : ℕ) (h : A → ℤ) → F (λ a. signed n (h a)) ≡ signed n (F h)
  adds-signed zero h = refl
  adds-signed (suc n) h = adds-neg (λ a. signed n (h a)) ∙ ap neg_ℤ (adds-signed n h)

  adds-less : (h g : A → ℤ) → F (λ a. h a -ℤ g a) ≡ F h -ℤ F g
  adds-less h g = let e = adds h (λ a. neg_ℤ (g a)) in let f = adds-neg g in omega (arith, ints)

  scale-none : (h : A → ℤ) → F (λ a. pos 0 *ℤ h a) ≡ pos 0 *ℤ F h
  scale-none h = ap F (λ i a. zero-*ℤ (h a) i) ∙ adds-zero ∙ sym (zero-*ℤ (F h))

  pub adds-scale : (c : ℤ) (h : A → ℤ) → F (λ a. c *ℤ h a) ≡ c *ℤ F h
  adds-scale (pos zero) h = scale-none h
  adds-scale (pos (suc n)) h =
      ap F (λ i a. suc_ℤ-*ℤ (pos n) (h a) i) ∙ adds (λ a. pos n *ℤ h a) h ∙ ap (λ z. z +ℤ F h) (adds-scale (pos n) h) ∙ sym (suc_ℤ-*ℤ (pos n) (F h))
  adds-scale (negsuc zero) h =
      ap F (λ i a. pred_ℤ-*ℤ (pos 0) (h a) i) ∙ adds-less (λ a. pos 0 *ℤ h a) h ∙ ap (λ z. z -ℤ F h) (scale-none h) ∙ sym (pred_ℤ-*ℤ (pos 0) (F h))
  adds-scale (negsuc (suc n)) h =
      ap F (λ i a. pred_ℤ-*ℤ (negsuc n) (h a) i) ∙ adds-less (λ a. negsuc n *ℤ h a) h ∙ ap (λ z. z -ℤ F h) (adds-scale (negsuc n) h) ∙ sym (pred_ℤ-*ℤ (negsuc n) (F h))

  pub adds-without_one : (s : List ℕ) (H : List ℕ → A → ℤ) → F (λ a. without_one s (λ g. H g a)) ≡ without_one s (λ g. F (H g))
  adds-without_one [] H = adds-zero
  adds-without_one (x ∷ s) H =
      let e = adds (H s) (λ a. neg_ℤ (without_one s (λ g. H (x ∷ g) a))) in
      let f = adds-neg (λ a. without_one s (λ g. H (x ∷ g) a)) in
      let g = adds-without_one s (λ g. H (x ∷ g)) in
      omega (arith, ints)

  adds-filled : (g : List ℕ) (h : A → ℤ) → F (λ a. unless_empty g (h a)) ≡ unless_empty g (F h)
  adds-filled [] h = adds-zero
  adds-filled (x ∷ g) h = refl

  pub adds-coboundary : (H : A → List ℕ → ℤ) (s : List ℕ) → F (λ a. integral_coboundary (H a) s) ≡ integral_coboundary (λ t. F (λ a. H a t)) s
  adds-coboundary H s = adds-without_one s (λ g a. unless_empty g (H a g)) ∙ ap (λ h. without_one s h) (λ i g. adds-filled g (λ a. H a g) i)

  pub adds-over : (x : List SurjectionTerm) (H : List ℕ → A → ℤ) → F (λ a. value_over x (λ u. H u a)) ≡ value_over x (λ u. F (H u))
  adds-over [] H = adds-zero
  adds-over (t ∷ x) H =
      adds (λ a. t.1 *ℤ H t.0 a) (λ a. value_over x (λ u. H u a))
      ∙ (λ i. adds-scale t.1 (H t.0) i +ℤ adds-over x H i)

  pub adds-sum_to : (d : ℕ) (H : ℕ → A → ℤ) → F (λ a. sum_to d (λ j. H j a)) ≡ sum_to d (λ j. F (H j))
  adds-sum_to zero H = refl
  adds-sum_to (suc d) H = adds (λ a. sum_to d (λ j. H j a)) (H (suc d)) ∙ ap (λ z. z +ℤ F (H (suc d))) (adds-sum_to d H)

pub coboundary-sum : (s : List ℕ) (a b : List ℕ → ℤ) → integral_coboundary (λ t. a t +ℤ b t) s ≡ integral_coboundary a s +ℤ integral_coboundary b s
coboundary-sum s a b = ap (λ h. without_one s h) (λ i g. part g i) ∙ without_one-sum s (λ g. unless_empty g (a g)) (λ g. unless_empty g (b g))
  where
    part : (g : List ℕ) → unless_empty g (a g +ℤ b g) ≡ unless_empty g (a g) +ℤ unless_empty g (b g)
    part [] = refl
    part (x ∷ g) = refl
