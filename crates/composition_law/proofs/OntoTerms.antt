-- The entries of the terms of a composition take exactly the values 1 to r + s - 1.
use Rattle.std.proofs.Common.{◌≡◌, ℕ, suc, ◌+◌, ◌≤◌, inl, inr, List, refl, ◌∙◌, arith, ℤ}
use Rattle.signed_sum.{proofs.Names.{less-no, less-yes, occurs-01, occurs-apart, range-in, range-out}, specs.Names.{less, numbers_from, occurs}}
use Rattle.composition_law.proofs.{States.{AllKind, IsWalk, kinds-apart, walk-edge, walk-next, walk-out, walks-by}, Walks.{Cell, values, walks}}

-- which values the numbers from 1 on are
pub occurs-from : (x a n : ℕ) → a ≤ x → occurs x (numbers_from a n) ≡ less x (a + n)
occurs-from x a n h = grind (arith, range-in x a n, range-out x a n, occurs-01 x (numbers_from a n), less-yes x (a + n), less-no x (a + n))

pub no-zero : (a n : ℕ) → 1 ≤ a → occurs 0 (numbers_from a n) ≡ 0
no-zero a n h = elim (occurs-01 0 (numbers_from a n)) [ inl z ↦ z | inr o ↦ absurd (omega (arith, h, (range-out 0 a n o).0)) ]

-- a walk, and no entry is 0
pub record IsPositive (kind : ℕ → ℕ) (u v : List ℕ) (c : List Cell) : Type 0 where
  pub walk : IsWalk kind u v c
  pub positive : occurs 0 (values c) ≡ 0

module _ (kind : ℕ → ℕ) (kind_zero : kind 0 ≡ 1) where
  pub walks-positive : (u v : List ℕ) (f g : List Cell → ℤ) → AllKind kind 1 u → AllKind kind 0 v → ((c : List Cell) → IsPositive kind u v c → f c ≡ g c) → walks u v f ≡ walks u v g
  walks-positive =
      walks-by kind (IsPositive kind) (λ y h. record { walk = record { ending = refl; outs = λ x k. refl; ins = λ z k. refl; single = λ e. refl }; positive = refl })
      (λ u v y c h w. record { walk = walk-next kind u v y c h w.walk; positive = occurs-apart 0 y (values c) (kinds-apart kind 0 y kind_zero h) ∙ w.positive })
      (λ u v y c h w. record { walk = walk-edge kind u v y c h w.walk; positive = occurs-apart 0 y (values c) (kinds-apart kind 0 y kind_zero h) ∙ w.positive })
      (λ u v x c h w. record { walk = walk-out kind u v x c h w.walk; positive = occurs-apart 0 (suc x) (values c) (λ e. omega (arith, e)) ∙ w.positive })
