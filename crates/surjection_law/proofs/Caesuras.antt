-- The degree of a surjection is the number of its caesuras.
use Rattle.std.proofs.{Common.{◌≡◌, ℕ, zero, suc, ◌+◌, ◌*◌, List, [], ◌∷◌, length, refl, sym, ◌∙◌, ap, arith, inl, inr, eq-eqb, ne_eqb}, lemmas.Bool.Decides.eqb_tells}
use Rattle.signed_sum.{proofs.Names.{numbers_from-distinct, occurs-later, occurs-mid}, specs.Names.{IsDistinct, numbers_from, occurs}}
use Rattle.surjection_law.specs.Names.{caesura_count, IsOnto, arity, CaesuraLaw}

-- how many of the values `ks` are in u
values_in : List ℕ → List ℕ → ℕ
values_in [] u = 0
values_in (k ∷ ks) u = occurs k u + values_in ks u

values_in-cons : (ks : List ℕ) (v : ℕ) (u : List ℕ) → IsDistinct ks → values_in ks (v ∷ u) + occurs v ks * occurs v u ≡ values_in ks u + occurs v ks
unfolding values_in
values_in-cons [] v u q = omega arith
values_in-cons (k ∷ ks) v u q =
    let ih = values_in-cons ks v u q.1 in
    elim (eqb_tells v k) [
      | inl e ↦
          let z : occurs v ks ≡ 0 = ap (λ j. occurs j ks) e.1 ∙ q.0 in
          let y : occurs v ks * occurs v u ≡ 0 * occurs v u = ap (λ j. j * occurs v u) z in
          rw (e.0, eq-eqb k v (sym e.1)) (omega (arith, ap (λ j. occurs j u) e.1))
      | inr n ↦ rw (n.0, ne_eqb k v (λ e. n.1 (sym e))) (omega arith)
    ]

values_in-none : (ks : List ℕ) → values_in ks [] ≡ 0
unfolding values_in
values_in-none [] = refl
values_in-none (k ∷ ks) = let h = values_in-none ks in omega arith

-- each place is a caesura or the last of its value
values_in-caesuras : (ks u : List ℕ) → IsDistinct ks → ((v : ℕ) → occurs v u ≡ 1 → occurs v ks ≡ 1) → values_in ks u + caesura_count u ≡ length u
values_in-caesuras ks [] q s = let z = values_in-none ks in omega arith
values_in-caesuras ks (v ∷ u) q s =
    let a = values_in-cons ks v u q in
    let b : occurs v ks * occurs v u ≡ 1 * occurs v u = ap (λ j. j * occurs v u) (s v (occurs-mid v [] u)) in
    let c = s v (occurs-mid v [] u) in
    let ih = values_in-caesuras ks u q (λ z y. s z (occurs-later z (v ∷ []) u y)) in
    omega arith

values_in-all : (a m : ℕ) (u : List ℕ) → ((k : ℕ) → occurs k (numbers_from a m) ≡ 1 → occurs k u ≡ 1) → values_in (numbers_from a m) u ≡ m
unfolding values_in
values_in-all a zero u s = refl
values_in-all a (suc m) u s =
    let here = s a (occurs-mid a [] (numbers_from (suc a) m)) in
    let later = values_in-all (suc a) m u (λ k h. s k (occurs-later k (a ∷ []) (numbers_from (suc a) m) h)) in
    omega arith

places : (r : ℕ) (u : List ℕ) → IsOnto r u → r + caesura_count u ≡ length u
places r u onto =
    let a = values_in-caesuras (numbers_from 1 r) u (numbers_from-distinct 1 r) (λ v h. sym (onto v) ∙ h) in
    let b = values_in-all 1 r u (λ k h. onto k ∙ h) in
    omega arith

pub caesura_law : CaesuraLaw
caesura_law = record {
  places = places;
  degree = λ u s. (let e = places (arity u) u s.onto in omega (arith, e));
}
