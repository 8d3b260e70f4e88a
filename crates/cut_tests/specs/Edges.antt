-- A cochain of degree 1 for tests.
use Rattle.std.{specs.Prelude.{◌≡◌, ℕ, ◌*◌, ◌-◌, ◌%◌, ◌<◌, List, [], ◌∷◌, length, refl}, proofs.Common.{inl, inr, arith, ap, ◌∙◌}, proofs.lemmas.Bool.cases_lt}
use Rattle.linear_law.specs.Names.{IsAscending}

-- c times the length of an edge, modulo 3; 0 where the second vertex is not above the first
abbrev pub edge_value : ℕ → List ℕ → ℕ
edge_value c [] = 0
edge_value c (v ∷ []) = 0
edge_value c (v ∷ w ∷ []) = c * (w - v) % 3
edge_value c (v ∷ w ∷ x ∷ f) = 0

pub edge_small : (c : ℕ) (f : List ℕ) → edge_value c f < 3
edge_small c [] = omega arith
edge_small c (v ∷ []) = omega arith
edge_small c (v ∷ w ∷ []) = omega arith
edge_small c (v ∷ w ∷ x ∷ f) = omega arith

pub edge_ascending : (c : ℕ) (f : List ℕ) → (IsAscending f → ⊥) → edge_value c f ≡ 0
edge_ascending c [] n = refl
edge_ascending c (v ∷ []) n = refl
edge_ascending c (v ∷ w ∷ []) n = elim (cases_lt v w) [
  | inl l ↦ absurd (n ((l, tt), (tt, tt)))
  | inr l ↦ let e : w - v ≡ 0 = omega arith in let z : c * (w - v) ≡ 0 = ap (λ k. c * k) e ∙ omega arith in omega (arith, z)
]
edge_ascending c (v ∷ w ∷ x ∷ f) n = refl

pub edge_long : (c : ℕ) (f : List ℕ) → (length f ≡ 2 → ⊥) → edge_value c f ≡ 0
edge_long c [] n = refl
edge_long c (v ∷ []) n = refl
edge_long c (v ∷ w ∷ []) n = absurd (n refl)
edge_long c (v ∷ w ∷ x ∷ f) n = refl
