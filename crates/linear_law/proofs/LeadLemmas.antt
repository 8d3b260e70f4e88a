-- Leads: what has one, and what is zero where it could have one.
use Rattle.std.proofs.Common.{◌≡◌, ℕ, zero, suc, ◌+◌, ◌*◌, ◌-◌, ◌%◌, ◌<◌, ◌≢◌, ◌⊎◌, arith, sym, subst, ◌∙◌, inl, inr}
use Rattle.std.proofs.lemmas.Bool.{cases_lt}
use Rattle.linear_law.specs.Names.{Congruent, IsField, AgreesOn, LeadsAt}
use Rattle.linear_law.proofs.CongruenceLemmas.{Congruent_sym, Congruent_trans, Congruent_add, Congruent_from, add-negated}
use Rattle.linear_law.proofs.PivotLemmas.{zero_or_not, not_zero, Congruent_of_zero}
use Rattle.linear_law.proofs.Counting.{Congruent_divide}

pub mul_nonzero : (p a b : ℕ) → IsField p → a % p ≢ 0 → b % p ≢ 0 → (a * b) % p ≢ 0
mul_nonzero p a b field n m e =
    not_zero p a n (Congruent_divide p a 0 b field m (Congruent_from (Congruent_of_zero p (a * b) e) (omega arith)))

pub nonzero_alike : (p a b : ℕ) → Congruent p a b → b % p ≢ 0 → a % p ≢ 0
nonzero_alike p a b h n e = n (sym h.same ∙ e)

-- the lead of what is alike
pub lead_alike : (p n : ℕ) (v w : ℕ → ℕ) (t : ℕ) → AgreesOn p (λ y. y < n) v w → LeadsAt p n w t → LeadsAt p n v t
lead_alike p n v w t same h = record {
  on = h.on;
  nonzero = nonzero_alike p (v t) (w t) (same.at t h.on) h.nonzero;
  least = λ y on b. Congruent_trans (same.at y on) (h.least y on b);
}

-- a vector is zero below n, or has a lead there
pub least_or_zero : (p : ℕ) (w : ℕ → ℕ) (n : ℕ) → AgreesOn p (λ y. y < n) w (λ y. 0) ⊎ ((t : ℕ) × LeadsAt p n w t)
least_or_zero p w zero = inl (record { at = λ y b. absurd (omega arith) })
least_or_zero p w (suc n) =
    elim (least_or_zero p w n) [
      | inr f ↦ inr (f.0, record { on = let b = f.1.on in omega arith; nonzero = f.1.nonzero; least = λ y on b. f.1.least y (let c = f.1.on in omega arith) b })
      | inl z ↦ elim (zero_or_not p (w n)) [
        | inr h ↦ inr (n, record { on = omega arith; nonzero = h; least = λ y on b. z.at y b })
        | inl e ↦ inl (record {
          at = λ y b. elim (cases_lt y n) [
            | inl c ↦ z.at y c
            | inr c ↦ let q : n ≡ y = omega arith in let P : ℕ → Type 0 = λ x. Congruent p (w x) 0 in subst P q e
          ];
        })
      ]
    ]

-- what is zero wherever it could have its lead is zero
pub zero_if : (p n : ℕ) (w : ℕ → ℕ) → ((t : ℕ) → LeadsAt p n w t → Congruent p (w t) 0) → AgreesOn p (λ y. y < n) w (λ y. 0)
zero_if p n w h =
    elim (least_or_zero p w n) [
      | inl z ↦ z
      | inr f ↦ absurd (not_zero p (w f.0) f.1.nonzero (h f.0 f.1))
    ]

pub same_of_difference : (p n : ℕ) (v w : ℕ → ℕ) → 1 < p → AgreesOn p (λ y. y < n) (λ y. v y + (p - 1) * w y) (λ y. 0) → AgreesOn p (λ y. y < n) v w
same_of_difference p n v w large h = record { at = λ y b. Congruent_from (Congruent_add (h.at y b) (Congruent_sym (add-negated p (w y) large))) (omega arith) }
