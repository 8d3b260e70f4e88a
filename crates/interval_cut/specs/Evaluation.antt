-- The values of cochains of one degree, and the sum over the cuts of a walk.
use Rattle.std.specs.Prelude.{◌≡◌, ℕ, suc, List, length, ℤ, pos, ◌+ℤ◌}
use Rattle.linear_law.specs.Names.{IsAscending}
use Rattle.signed_sum.specs.Names.{total}
use Rattle.simplicial_law.specs.Names.{CongruentInt}
use Rattle.interval_cut_law.specs.Names.{cuts}
use Rattle.interval_cut.specs.Walking.{CutWalk}

-- what a cochain of degree q is on lists that are no simplices of that degree
pub record IsOfDegree (q : ℕ) (a : List ℕ → ℕ) : Type 0 where
  pub ascending : (f : List ℕ) → (IsAscending f → ⊥) → a f ≡ 0
  pub long : (f : List ℕ) → (length f ≡ suc q → ⊥) → a f ≡ 0

-- `sum` is, modulo p, the sum of the terms of the cuts of 0 to n for u that were given; the others are to come
pub record IsPartOfSum (p : ℕ) (term : List ℕ → ℤ) (u : List ℕ) (n sum : ℕ) (w : CutWalk) : Type 0 where
  pub values : w.values ≡ u
  pub top : w.top ≡ n
  pub rest : CongruentInt p (pos sum +ℤ total term w.left) (total term (cuts u n))
