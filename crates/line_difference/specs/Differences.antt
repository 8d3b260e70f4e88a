-- The difference of the two sides of a Cartan line, as it is made.
use Rattle.std.specs.{Prelude.{◌≡◌, ℕ, ◌+◌, true, List, length}, List.AllZip}
use Rattle.linear_law.specs.Names.{negated, sum_over}
use Rattle.simplicial_law.specs.Names.{AgreesOnSimplices, Cochain as SimplexCochain}
use Rattle.complex_index.specs.{declared.indexed.Cochain.Cochain, Names.{IsIndexOf, level}}
use Rattle.sparse_rows.specs.Rows.{IsBelow}
use Rattle.may_steenrod.specs.Cochains.{IsClosed, cochain_in}
use Rattle.report.specs.declared.plan.Line.{Line}
use Rattle.report_law.specs.Names.{IsCartanProduct, IsOperation, cartan_op, is_defined, line_degree}
use Rattle.steenrod_law.specs.Names.{cup_product}
use Rattle.line_difference.specs.Elements.{HasElement}
use Rattle.may_elements.specs.Stored.{Parts}

-- a cochain of degree n, at places of simplices of this degree
pub record IsPlacedIn (p : ℕ) (levels : List (List (List ℕ))) (n : ℕ) (z : Cochain p) : Type 0 where
  pub degree : z.degree ≡ n
  pub inside : IsBelow (length (level levels n)) z.row

-- where x and y are cocycles of each complex with these levels, so is the cochain of degree n with the row r
abbrev pub KeepsCocycles : {p : ℕ} → List (List (List ℕ)) → Line → Cochain p → Cochain p → ℕ → Cochain p → Type 0
KeepsCocycles {p} levels line x y n r = IsClosed p levels line.a x.row → IsClosed p levels line.b y.row → IsClosed p levels n r.row

-- a pair of numbers with the sum n of the line: both operations are defined on the degrees of the line, and can be made
pub record IsLinePair (p : ℕ) (table : Parts) (line : Line) (pair : ℕ × ℕ) : Type 0 where
  pub sum : pair.0 + pair.1 ≡ line.n
  pub first_defined : is_defined p line.a (cartan_op p pair.0) ≡ true
  pub second_defined : is_defined p line.b (cartan_op p pair.1) ≡ true
  pub first_stored : HasElement p table line.a (cartan_op p pair.0)
  pub second_stored : HasElement p table line.b (cartan_op p pair.1)

-- r is the product of the operations of the pair on x and on y
pub record IsPart {p : ℕ} (levels : List (List (List ℕ))) (line : Line) (x y : Cochain p) (pair : ℕ × ℕ) (r : Cochain p) : Type 0 where
  pub inside : IsBelow (length (level levels (line_degree p line))) r.row
  pub product : SimplexCochain
  pub is_product : (facets : List (List ℕ)) → IsIndexOf facets levels →
      IsCartanProduct facets p line.a line.b (cochain_in levels line.a x.row) (cochain_in levels line.b y.row) pair.0 pair.1 product
  pub same : (facets : List (List ℕ)) → IsIndexOf facets levels → AgreesOnSimplices facets (line_degree p line) p (cochain_in levels (line_degree p line) r.row) product
  pub closed : KeepsCocycles levels line x y (line_degree p line) r

-- r is the operation n on the product of x and y, less the products for these pairs
pub record IsLess {p : ℕ} (levels : List (List (List ℕ))) (line : Line) (x y : Cochain p) (pairs : List (ℕ × ℕ)) (r : Cochain p) : Type 0 where
  pub placed : IsPlacedIn p levels (line_degree p line) r
  pub closed : KeepsCocycles levels line x y (line_degree p line) r
  pub whole : SimplexCochain
  pub is_whole : (facets : List (List ℕ)) → IsIndexOf facets levels → IsOperation facets p (cartan_op p line.n) (line.a + line.b)
      (cup_product p line.a line.b (cochain_in levels line.a x.row) (cochain_in levels line.b y.row)) whole
  pub parts : List SimplexCochain
  pub are_parts : (facets : List (List ℕ)) → IsIndexOf facets levels →
      AllZip (λ pair w. IsCartanProduct facets p line.a line.b (cochain_in levels line.a x.row) (cochain_in levels line.b y.row) pair.0 pair.1 w) pairs parts
  pub difference : (facets : List (List ℕ)) → IsIndexOf facets levels → AgreesOnSimplices facets (line_degree p line) p
      (cochain_in levels (line_degree p line) r.row) (λ s. whole s + negated p (sum_over (λ (w : SimplexCochain). w s) parts))
