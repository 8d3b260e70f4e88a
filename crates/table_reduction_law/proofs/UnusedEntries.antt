-- What is left of a list.
use Rattle.std.proofs.Common.{◌≡◌, ℕ, cond, List, [], ◌∷◌, refl, sym, ◌∙◌, ap, arith, ◌==◌, inl, inr}
use Rattle.signed_sum.{proofs.Names.{occurs-zero, Alike, occurs-01, occurs-apart, occurs-tail}, specs.Names.{IsDistinct, occurs}}
use Rattle.table_reduction_law.specs.Names.{cons_if_zero, unused}

pub unused-cong : (a b w : List ℕ) → Alike a b → unused a w ≡ unused b w
unused-cong a b [] h = refl
unused-cong a b (x ∷ w) h = λ i. cons_if_zero (h x i) x (unused-cong a b w h i)

pub unused-in : (v : ℕ) (a w : List ℕ) → occurs v a ≡ 1 → occurs v (unused a w) ≡ 0
unused-in v a [] h = refl
unused-in v a (x ∷ w) h = elim (occurs-01 x a) [
  | inl e ↦ rw e (occurs-apart v x (unused a w) (λ q. omega (arith, e, h, ap (λ j. occurs j a) q)) ∙ unused-in v a w h)
  | inr e ↦ rw e (unused-in v a w h)
]

pub unused-out : (v : ℕ) (a w : List ℕ) → occurs v a ≡ 0 → occurs v (unused a w) ≡ occurs v w
unused-out v a [] h = refl
unused-out v a (x ∷ w) h = elim (occurs-01 x a) [
  | inl e ↦ rw e (ap (λ k. cond (v == x) 1 k) (unused-out v a w h))
  | inr e ↦ rw e (unused-out v a w h ∙ sym (occurs-apart v x w (λ q. omega (arith, e, h, ap (λ j. occurs j a) q))))
]

pub unused-distinct : (a w : List ℕ) → IsDistinct w → IsDistinct (unused a w)
unused-distinct a [] h = tt
unused-distinct a (x ∷ w) h = elim (occurs-01 x a) [ inl e ↦ rw e (unused-out x a w e ∙ h.0, unused-distinct a w h.1) | inr e ↦ rw e (unused-distinct a w h.1) ]

-- nothing is used
pub unused-none : (w : List ℕ) → unused [] w ≡ w
unused-none [] = refl
unused-none (x ∷ w) = ap (λ r. x ∷ r) (unused-none w)

-- one value that does not stand there
pub unused-absent : (x : ℕ) (w : List ℕ) → occurs x w ≡ 0 → unused (x ∷ []) w ≡ w
unused-absent x [] h = refl
unused-absent x (y ∷ w) h = let z = occurs-zero x y w h in rw (occurs-apart y x [] (λ q. z.0 (sym q))) (ap (λ r. y ∷ r) (unused-absent x w z.1))

-- first a, then x
pub unused-cons : (x : ℕ) (a w : List ℕ) → unused (x ∷ []) (unused a w) ≡ unused (x ∷ a) w
unused-cons x a [] = refl
unused-cons x a (y ∷ w) = elim (occurs-01 y a) [
  | inl e ↦ rw e (ap (cons_if_zero (occurs y (x ∷ [])) y) (unused-cons x a w))
  | inr e ↦ rw (occurs-tail y x a e, e) (unused-cons x a w)
]
