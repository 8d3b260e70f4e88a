-- The laws of the turn of tuples, which the impls cite.
use Rattle.std.{proofs.Common.{◌≡◌, ℕ, zero, suc, ◌≤◌, ◌==◌, Bool, List, length, refl, sym, ap, ◌∙◌, inl, arith, IsTrue}, specs.Prelude.{ℤ, pos, ◌*ℤ◌, All}, proofs.lemmas.Bool.{eqb-true, eq-eqb}, proofs.lemmas.List.Elements.All-weaker}
use Rattle.signed_sum.{specs.Names.{numbers_from, cycle, cycle_power, entry_at, value_at, IsSign, after_turns}, proofs.Names.{one-mul, length-numbers_from}}
use Rattle.operad_law.{specs.Permutations.{IsPerm, composed}, proofs.PermLemmas.{entry-identity, entry-map, length-cycle_power, perm_of}}
use Rattle.table_reduction_law.{proofs.Permutations.perm-within, proofs.PowerPairs.{power-perm, power-turn}, specs.Names.{permuted_tuple, tuple_boundary, tuple_arity, tuple_degree}}
use Rattle.barratt_eccles.specs.{Generators.{IsGenerator, turned_tuple}, ActionLaws.{act_arity, act_composed, act_degree, act_identity, act_valid, boundary_act, same-map}, BoundaryLaws.boundary_arity}

-- the powers of the cycle act on a tuple of arity p
record Turns (p : ℕ) (w : List (List ℕ)) : Type 0 where
  arity : tuple_arity w ≡ p
  perm : (n : ℕ) → IsPerm (cycle_power p n)
  size : (n : ℕ) → length (cycle_power p n) ≡ tuple_arity w

turns : (p : ℕ) (w : List (List ℕ)) → IsGenerator w → IsTrue (tuple_arity w == p) → Turns p w
turns p w g f =
    let e : tuple_arity w ≡ p = eqb-true (tuple_arity w) p f in
    record { arity = e; perm = λ n. perm_of p (cycle_power p n) (omega (arith, g.wide)) (omega (arith, g.narrow)) (power-perm p n); size = λ n. length-cycle_power p n ∙ sym e }

pub turn_valid : (p : ℕ) (w : List (List ℕ)) → IsGenerator w → IsTrue (tuple_arity w == p) → IsGenerator (turned_tuple p w).0
turn_valid p w g f = let k = turns p w g f in act_valid (cycle_power p 1) w g (k.perm 1) (k.size 1)

pub turn_fits : (p : ℕ) (w : List (List ℕ)) → IsGenerator w → IsTrue (tuple_arity w == p) → IsTrue (tuple_arity (turned_tuple p w).0 == p)
turn_fits p w g f = let k = turns p w g f in eq-eqb (tuple_arity (turned_tuple p w).0) p (act_arity (cycle_power p 1) w g (k.perm 1) (k.size 1) ∙ k.arity)

pub turn_degree : (p : ℕ) (w : List (List ℕ)) → IsGenerator w → IsTrue (tuple_arity w == p) → tuple_degree (turned_tuple p w).0 ≡ tuple_degree w
turn_degree p w g f = let k = turns p w g f in act_degree (cycle_power p 1) w g (k.perm 1) (k.size 1)

pub turn_sign : (p : ℕ) (w : List (List ℕ)) → IsGenerator w → IsTrue (tuple_arity w == p) → IsSign (turned_tuple p w).1
turn_sign p w g f = inl refl

pub boundary_fits : (p : ℕ) (w : List (List ℕ)) → IsGenerator w → IsTrue (tuple_arity w == p) → All (λ t. IsTrue (tuple_arity t.0 == p)) (tuple_boundary w)
boundary_fits p w g f =
    All-weaker (λ t. tuple_arity t.0 ≡ tuple_arity w) (λ t. IsTrue (tuple_arity t.0 == p))
    (λ t a. eq-eqb (tuple_arity t.0) p (a ∙ eqb-true (tuple_arity w) p f)) (tuple_boundary w) (boundary_arity w g)

pub boundary_turn : (p : ℕ) (phi : List (List ℕ) → ℤ) (w : List (List ℕ)) → IsGenerator w → IsTrue (tuple_arity w == p) →
    (turned_tuple p w).1 *ℤ value_at phi (tuple_boundary (turned_tuple p w).0) ≡ value_at (λ v. (turned_tuple p v).1 *ℤ phi (turned_tuple p v).0) (tuple_boundary w)
boundary_turn p phi w g f =
    let k = turns p w g f in
    let c = cycle_power p 1 in
    one-mul (value_at phi (tuple_boundary (permuted_tuple c w)))
    ∙ boundary_act phi c w g (k.perm 1) (k.size 1)
    ∙ sym (λ i. value_at (λ v. one-mul (phi (permuted_tuple c v)) i) (tuple_boundary w))

-- ---- p turns are the identity
-- a power of the cycle after the cycle is the next power
next_power : (p n : ℕ) → composed (cycle_power p 1) (cycle_power p n) ≡ cycle_power p (suc n)
next_power p n =
    same-map p (entry_at (cycle_power p 1)) (cycle p) (cycle_power p n) (perm-within p (cycle_power p n) (power-perm p n))
    (λ v a b. entry-map (cycle p) (numbers_from 1 p) v a (omega (arith, length-numbers_from 1 p)) ∙ ap (cycle p) (entry-identity p v a b))

pub turned_round : (p : ℕ) (w : List (List ℕ)) → IsGenerator w → IsTrue (tuple_arity w == p) → after_turns (turned_tuple p) p w ≡ (w, pos 1)
turned_round p w g f = steps p ∙ (λ i. (back i, pos 1))
  where
    k : Turns p w
    k = turns p w g f

    none : permuted_tuple (cycle_power p 0) w ≡ w
    none = ap (λ (r : ℕ). permuted_tuple (numbers_from 1 r) w) (sym k.arity) ∙ act_identity w g

    steps : (n : ℕ) → after_turns (turned_tuple p) n w ≡ (permuted_tuple (cycle_power p n) w, pos 1)
    steps zero = λ i. (sym none i, pos 1)
    steps (suc n) =
        let e : permuted_tuple (cycle_power p 1) (permuted_tuple (cycle_power p n) w) ≡ permuted_tuple (cycle_power p (suc n)) w =
        act_composed (cycle_power p 1) (cycle_power p n) w g (k.perm 1) (k.perm n) (k.size 1) (k.size n)
        ∙ ap (λ t. permuted_tuple t w) (next_power p n) in
        (λ i. (permuted_tuple (cycle_power p 1) (steps n i).0, (steps n i).1 *ℤ pos 1)) ∙ (λ i. (e i, pos 1))

    back : permuted_tuple (cycle_power p p) w ≡ w
    back = ap (λ t. permuted_tuple t w) (power-turn p) ∙ none

-- the turn of a tuple by its own arity
pub own_turn : (w : List (List ℕ)) → IsGenerator w → IsGenerator (permuted_tuple (cycle_power (tuple_arity w) 1) w)
own_turn w g = turn_valid (tuple_arity w) w g (eq-eqb (tuple_arity w) (tuple_arity w) refl)
