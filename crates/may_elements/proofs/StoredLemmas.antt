-- Stored May elements, their boundary, and what they cost.
use Rattle.std.proofs.{Common.{◌≡◌, ◌≢◌, ℕ, zero, suc, ◌+◌, ◌%◌, ◌==◌, ◌&&◌, ◌≤◌, ap₂, cond, true, false, List, [], ◌∷◌, ◌++◌, refl, sym, ◌∙◌, ap, arith, eq-eqb, inl, inr, ℤ, None, Some, IsSome, is_some}, lemmas.Bool.Decides.eqb_tells}
use Rattle.may_elements.specs.{Live.live_part, Stored.{AreLiveParts, Parts, boundary_value, stored_at}}
use Rattle.operad_law.specs.FormalSums.{IsSameSum}
use Rattle.signed_sum.specs.Names.{value_at}
use Rattle.surjection_law.specs.Names.{surjection_boundary}
use Rattle.table_reduction_law.{proofs.FormalSums.may_relations, specs.Names.may_element}

-- the boundary relation in degree d
pub relation : (p d : ℕ) (s : List (List ℕ × ℤ)) → 1 ≤ p → IsSameSum s (may_element p d) → (h : List ℕ → ℤ) →
    value_at (λ u. value_at h (surjection_boundary u)) s ≡ boundary_value p d h
relation p zero s k a h = a.at (λ u. value_at h (surjection_boundary u)) ∙ may_relations.bottom p h k
relation p (suc d) s k a h =
    let b = a.at (λ u. value_at h (surjection_boundary u)) in
    let one : suc d ≡ d + 1 = omega arith in
    let c = ap (λ n. value_at (λ u. value_at h (surjection_boundary u)) (may_element p n)) one in
    elim (eqb_tells (d % 2) 0) [
      | inl e ↦ b ∙ c ∙ may_relations.even p d h k e.1 ∙ rw e.0 refl
      | inr e ↦ b ∙ c ∙ may_relations.odd p d h k (omega (arith, e.1)) ∙ rw e.0 refl
    ]

-- one part more
pub stored-more : (p d q : ℕ) (e : List (List ℕ × ℤ)) (ts : Parts) → AreLiveParts p ts → IsSameSum e (live_part p d q) → AreLiveParts p (ts ++ (((d, q), e) ∷ []))
stored-more p d q e [] h a = (a, tt)
stored-more p d q e (t ∷ ts) h a = (h.0, stored-more p d q e ts h.1 a)

pub stored-there : (d q : ℕ) (e : List (List ℕ × ℤ)) (ts : Parts) → IsSome (stored_at d q (ts ++ (((d, q), e) ∷ [])))
stored-there d q e [] = ap₂ (λ x y. is_some (cond (x && y) (Some e) None)) (eq-eqb d d refl) (eq-eqb q q refl)
stored-there d q e (t ∷ ts) =
    elim (t.0.0 == d && t.0.1 == q) as (λ b. is_some (cond b (Some t.1) (stored_at d q (ts ++ (((d, q), e) ∷ [])))) ≡ true) [ true ↦ refl | false ↦ stored-there d q e ts ]

pub stored-other : (k r d q : ℕ) (e : List (List ℕ × ℤ)) (ts : Parts) → (k ≡ d → r ≢ q) → stored_at k r (ts ++ (((d, q), e) ∷ [])) ≡ stored_at k r ts
stored-other k r d q e [] n = elim (eqb_tells d k) [
  | inr a ↦ ap (λ b. cond (b && q == r) (Some e) None) a.0
  | inl a ↦ elim (eqb_tells q r) [ inl b ↦ absurd (n (sym a.1) (sym b.1)) | inr b ↦ ap₂ (λ x y. cond (x && y) (Some e) None) a.0 b.0 ]
]
stored-other k r d q e (t ∷ ts) n = ap (λ o. cond (t.0.0 == k && t.0.1 == r) (Some t.1) o) (stored-other k r d q e ts n)
