-- The value of a sum of surjections on one cochain.
use Rattle.std.specs.Prelude.{◌≡◌, ℕ, ◌==◌, ◌&&◌, cond, List, ℤ, pos, ◌+ℤ◌, length, suc}
use Rattle.simplicial_law.specs.Names.{CongruentInt}
use Rattle.surjection_law.specs.Names.{arity, surjection_degree}
use Rattle.interval_cut_law.specs.Names.{operation_value}
use Rattle.steenrod_law.specs.Names.{copies}
use Rattle.interval_cut.specs.Names.{IsOfDegree}
use Rattle.may_steenrod.specs.FaceSums.{face_sum}

-- the value of the operation of u on p times the cochain a, if u has arity p and degree d, else 0
abbrev pub tested_value : ℕ → ℕ → (List ℕ → ℤ) → List ℕ → List ℕ → ℤ
tested_value p d a s u = cond ((arity u == p) && (surjection_degree u == d)) (operation_value p u (copies p a) s) (pos 0)

-- on cochains of degree q and simplices of degree n, `new` has the value of `old` plus g
pub record AddsTo (p q n : ℕ) (old new : List (ℕ × List (List ℕ))) (g : (List ℕ → ℤ) → List ℕ → ℤ) : Type 0 where
  pub at : (a : List ℕ → ℕ) (s : List ℕ) → IsOfDegree q a → length s ≡ suc n →
      CongruentInt p (face_sum (λ f. pos (a f)) s new) (face_sum (λ f. pos (a f)) s old +ℤ g (λ f. pos (a f)) s)
