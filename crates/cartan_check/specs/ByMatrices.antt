-- The sides of a Cartan line by coordinates.
use Rattle.std.specs.{Prelude.{ℕ, ◌+◌, List}, List.AllZip}
use Rattle.linear_law.specs.Names.{negated, sum_over}
use Rattle.simplicial_law.specs.Names.{Cochain as SimplexCochain}
use Rattle.complex_index.specs.declared.indexed.Cochain.{Cochain}
use Rattle.report.specs.declared.plan.Line.{Line}
use Rattle.report_law.specs.Names.{IsCartanProduct}
use Rattle.class_matrices.specs.{declared.coordinates.Coordinates.Coordinates, Names.HasThese}

-- the product of the operations of the pair on z and w, of degrees a and b, has these coordinates
pub record HasPart {p : ℕ} (facets : List (List ℕ)) (levels : List (List (List ℕ))) (classes : ℕ → List (Cochain p)) (a b : ℕ) (z w : SimplexCochain) (pair : ℕ × ℕ) (c : Coordinates p) : Type 0 where
  pub product : SimplexCochain
  pub is_product : IsCartanProduct facets p a b z w pair.0 pair.1 product
  pub has : HasThese facets levels classes product c

-- a cocycle less the products for these pairs has these coordinates
pub record IsLessParts {p : ℕ} (facets : List (List ℕ)) (levels : List (List (List ℕ))) (classes : ℕ → List (Cochain p)) (line : Line) (z w whole : SimplexCochain) (pairs : List (ℕ × ℕ)) (c : Coordinates p) : Type 0 where
  pub parts : List SimplexCochain
  pub are_parts : AllZip (λ pair v. IsCartanProduct facets p line.a line.b z w pair.0 pair.1 v) pairs parts
  pub has : HasThese facets levels classes (λ s. whole s + negated p (sum_over (λ (v : SimplexCochain). v s) parts)) c
