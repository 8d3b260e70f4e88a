-- The sums of the turn of an element, term by term.
use Rattle.std.proofs.{Common.{◌≡◌, ℕ, suc, ◌+◌, ◌≤◌, ◌^◌, List, [], sym, ap, ◌∙◌, inl, inr, arith, Ordering, Equal, w64, to_z, of_z, FitsSigned, ℤ, negsuc, ◌*ℤ◌, nat_abs}, lemmas.Int.{ints, to_z-of_z}}
use Rattle.signed_sum.{specs.Names.{value_at, weight_of, IsSign, difference, power_sum, after_turns}, proofs.Names.pair_turn-sign}
use Rattle.operad_law.{specs.FormalSums.{IsSameSum, plus_term}, proofs.PlusTerm.weight_of-plus_term, proofs.Unique.{summed, value_at-summed}}

-- a list summed up is the same sum
pub IsSameSum-summed : {X : Type 0} (cmp : X → X → Ordering) (same : (x y : X) → cmp x y ≡ Equal → x ≡ y) (s ts : List (X × ℤ)) → s ≡ summed cmp ts → IsSameSum s ts
IsSameSum-summed cmp same s ts e = record { at = λ phi. ap (value_at phi) e ∙ value_at-summed cmp same phi ts }

-- the element with -1, and then its turn
pub difference-sum : {X : Type 0} (cmp : X → X → Ordering) (turn : X → X × ℤ) (x whole : X) (next : X) (sign : ℤ) (none first both : List (X × ℤ)) → whole ≡ x → (next, sign) ≡ turn x →
    none ≡ [] → first ≡ plus_term cmp none whole (negsuc 0) → both ≡ plus_term cmp first next sign → both ≡ summed cmp (difference turn x)
difference-sum cmp turn x whole next sign none first both w n z a b =
    b ∙ (λ i. plus_term cmp (a i) next sign) ∙ (λ i. plus_term cmp (plus_term cmp (z i) (w i) (negsuc 0)) (n i).0 (n i).1)

sign_size : (s : ℤ) → IsSign s → nat_abs s ≡ 1
sign_size s h = elim h [ inl e ↦ ap nat_abs e | inr e ↦ ap nat_abs e ]

pub fits_sign : (s : ℤ) → IsSign s → FitsSigned w64 s
fits_sign s h = elim h [ inl e ↦ omega (arith, ints) | inr e ↦ omega (arith, ints) ]

-- one more power in the sum
pub power-next : {X : Type 0} (cmp : X → X → Ordering) (turn : X → X × ℤ) (n : ℕ) (x element : X) (sign : ℤ) (now new : List (X × ℤ)) → after_turns turn n x ≡ (element, sign) →
    now ≡ summed cmp (power_sum turn n x) → new ≡ plus_term cmp now element sign → new ≡ summed cmp (power_sum turn (n + 1) x)
power-next cmp turn n x element sign now new t e f =
    let s : n + 1 ≡ suc n = omega arith in
    rw s (f ∙ (λ i. plus_term cmp (e i) ((sym t) i).0 ((sym t) i).1))

pub after_turns-next : {X : Type 0} (turn : X → X × ℤ) (n : ℕ) (x element next : X) (sign step product : ℤ) → after_turns turn n x ≡ (element, sign) → (next, step) ≡ turn element → product ≡ sign *ℤ step →
    after_turns turn (n + 1) x ≡ (next, product)
after_turns-next turn n x element next sign step product t e p =
    let s : n + 1 ≡ suc n = omega arith in
    let b : (next, sign *ℤ step) ≡ (next, product) = λ i. (next, (sym p) i) in
    rw s ((λ i. ((turn (t i).0).0, (t i).1 *ℤ (turn (t i).0).1)) ∙ (λ i. (((sym e) i).0, sign *ℤ ((sym e) i).1)) ∙ b)

pub weight-next : {X : Type 0} (cmp : X → X → Ordering) (n : ℕ) (element : X) (sign : ℤ) (now new : List (X × ℤ)) → IsSign sign → weight_of now ≤ n → new ≡ plus_term cmp now element sign → weight_of new ≤ n + 1
weight-next cmp n element sign now new s h e = rw e (omega (arith, weight_of-plus_term cmp now element sign, sign_size sign s))

-- the product of two signs, as the code makes it
pub product_of_signs : (s t : ℤ) → IsSign s → IsSign t → to_z w64 (of_z w64 (s *ℤ to_z w64 (of_z w64 t))) ≡ s *ℤ t
product_of_signs s t h k = rw (to_z-of_z w64 t (fits_sign t k)) (to_z-of_z w64 (s *ℤ t) (fits_sign (s *ℤ t) (pair_turn-sign s t h k)))
