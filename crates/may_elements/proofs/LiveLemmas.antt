-- Lists that begin with too many of one value are left out.
use Rattle.std.proofs.Common.{◌≡◌, ◌≤◌, ◌==◌, ℕ, List, ◌++◌, Option, None, Some, true, ap, arith, inl, inr}
use Rattle.signed_sum.{specs.Names.{numbers_from, occurs}, proofs.Names.{occurs-01, range-out}}
use Rattle.interval_cut.{proofs.CrowdedLemmas.{crowded-none, times-behind, times-some}}
use Rattle.may_elements.specs.{Live.is_left_out, Pairs.IsCrowded}

pub crowded-out : (p : ℕ) (live_for : Option ℕ) (values : List ℕ) → ((v : ℕ) → occurs v values ≤ occurs v (numbers_from 1 p)) → IsCrowded live_for values → (w : List ℕ) → is_left_out live_for (values ++ w) ≡ true
crowded-out p None values i c w = absurd c
crowded-out p (Some q) values i c w =
    ap (λ n. n == 0) (crowded-none q c.0 (values ++ w) (at-least c.0 (omega (arith, i c.0, times-some c.0 values (omega (arith, c.1)), at_most c.0))) (omega (arith, c.1, times-behind c.0 values w)))
  where
    at-least : (v : ℕ) → occurs v (numbers_from 1 p) ≡ 1 → 1 ≤ v
    at-least v o = (range-out v 1 p o).0

    at_most : (v : ℕ) → occurs v (numbers_from 1 p) ≤ 1
    at_most v = elim (occurs-01 v (numbers_from 1 p)) [ inl z ↦ omega (arith, z) | inr z ↦ omega (arith, z) ]
