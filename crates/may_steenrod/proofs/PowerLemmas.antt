-- Squares, powers and Bockstein powers from multiples of May operations.
use Rattle.std.{proofs.Common.{◌≡◌, ℕ, ◌+◌, ◌-◌, ◌*◌, ◌%◌, ◌<◌, ◌≤◌, List, arith, subst, Result, Ok, Err, IsTrue}, specs.Result.IfOk, specs.declared.alloc.AllocError.AllocError}
use Rattle.linear_law.{specs.Names.negated, proofs.Names.{Congruent_mod, Congruent_of, Congruent_trans}}
use Rattle.fp_field.specs.{Element.IsScale, Served.served}
use Rattle.complex_index.specs.{Names.IsIndexOf, declared.indexed.Cochain.{Cochain as ComplexCochain}}
use Rattle.steenrod_law.{specs.Names.{IsBocksteinPower, IsPower, power_degree, scaled_operation}, proofs.LawProofs.{bockstein-degrees, power-degrees}}
use Rattle.may_steenrod.{specs.Cochains.{HasValues, IsClosed, cochain_in}, proofs.OperationLemmas.{operation-closed, rescaled}}

-- the degrees
pub power-target : (p s q : ℕ) → 1 ≤ p → 2 * s ≤ q → p * q - power_degree p s q ≡ q + 2 * s * (p - 1)
power-target p s q h l = let t = power-degrees p s q h l in omega (arith, t)

pub bockstein-target : (p s q : ℕ) → 2 ≤ p → 2 * s < q → p * q - (power_degree p s q - 1) ≡ q + 2 * s * (p - 1) + 1
bockstein-target p s q h l = let t = bockstein-degrees p s q h l in omega (arith, t)

module _ (p : ℕ) (levels : List (List (List ℕ))) (s q c n : ℕ) (row out : List (ℕ × ℕ)) (odd : p % 2 ≡ 1) (is_scale : IsScale p q s c) where
  pub is_power : 2 * s ≤ q → n ≡ q + 2 * s * (p - 1) → HasValues p levels n (scaled_operation p (power_degree p s q) c q (cochain_in levels q row)) out
      → (facets : List (List ℕ)) → IsIndexOf facets levels → IsPower facets p s q (cochain_in levels q row) (cochain_in levels (q + 2 * s * (p - 1)) out)
  is_power d e h facets i = record {
    odd = odd;
    defined = d;
    scale = c;
    is_scale = is_scale;
    value = (subst (λ m. HasValues p levels m (scaled_operation p (power_degree p s q) c q (cochain_in levels q row)) out) e h).values facets i;
  }

  pub is_bockstein_power : 2 * s < q → (m : ℕ) → m ≡ negated p c % p → n ≡ q + 2 * s * (p - 1) + 1
      → HasValues p levels n (scaled_operation p (power_degree p s q - 1) m q (cochain_in levels q row)) out
      → (facets : List (List ℕ)) → IsIndexOf facets levels → IsBocksteinPower facets p s q (cochain_in levels q row) (cochain_in levels (q + 2 * s * (p - 1) + 1) out)
  is_bockstein_power d m f e h facets i = record {
    odd = odd;
    defined = d;
    scale = c;
    is_scale = is_scale;
    value = (rescaled p levels q (q + 2 * s * (p - 1) + 1) (power_degree p s q - 1) m (negated p c) (cochain_in levels q row) out
        (Congruent_trans (Congruent_of f) (Congruent_mod p (negated p c)))
        (subst (λ k. HasValues p levels k (scaled_operation p (power_degree p s q - 1) m q (cochain_in levels q row)) out) e h)).values facets i;
  }

-- ---- results of the code

module _ (p : ℕ) (levels : List (List (List ℕ))) (q n d c : ℕ) (row : List (ℕ × ℕ)) where
  -- the multiple of the operation of degree d, where there is a result
  abbrev pub Multiple : Result (ComplexCochain p) AllocError → Type 0
  Multiple r = IfOk r (λ x. HasValues p levels n (scaled_operation p d c q (cochain_in levels q row)) x.row)

  pub ok_closed : (r : Result (ComplexCochain p) AllocError) (m : ℕ) → n ≡ m → IsTrue (served p) → Multiple r
      → IfOk r (λ x. IsClosed p levels q row → IsClosed p levels m x.row)
  ok_closed (Ok x) m e prime h = λ closed. subst (λ k. IsClosed p levels k x.row) e (operation-closed p levels q n d c row x.row prime h closed)
  ok_closed (Err f) m e prime h = tt

pub ok_power : (p : ℕ) (levels : List (List (List ℕ))) (s q c n : ℕ) (row : List (ℕ × ℕ)) (r : Result (ComplexCochain p) AllocError) → p % 2 ≡ 1 → 2 * s ≤ q → IsScale p q s c → n ≡ q + 2 * s * (p - 1)
    → Multiple p levels q n (power_degree p s q) c row r
    → IfOk r (λ x. (facets : List (List ℕ)) → IsIndexOf facets levels → IsPower facets p s q (cochain_in levels q row) (cochain_in levels (q + 2 * s * (p - 1)) x.row))
ok_power p levels s q c n row (Ok x) odd d k e h = is_power p levels s q c n row x.row odd k d e h
ok_power p levels s q c n row (Err f) odd d k e h = tt

pub ok_bockstein_power : (p : ℕ) (levels : List (List (List ℕ))) (s q c m n : ℕ) (row : List (ℕ × ℕ)) (r : Result (ComplexCochain p) AllocError) → p % 2 ≡ 1 → 2 * s < q → IsScale p q s c → m ≡ negated p c % p
    → n ≡ q + 2 * s * (p - 1) + 1 → Multiple p levels q n (power_degree p s q - 1) m row r
    → IfOk r (λ x. (facets : List (List ℕ)) → IsIndexOf facets levels → IsBocksteinPower facets p s q (cochain_in levels q row) (cochain_in levels (q + 2 * s * (p - 1) + 1) x.row))
ok_bockstein_power p levels s q c m n row (Ok x) odd d k f e h = is_bockstein_power p levels s q c n row x.row odd k d m f e h
ok_bockstein_power p levels s q c m n row (Err f) odd d k e g h = tt
