-- The matrix of the Bockstein, and what it carries.
use Rattle.std.specs.{Prelude.{◌≡◌, ℕ, ◌+◌, ◌*◌, ◌-◌, Bool, List, length, map}, List.AllZip}
use Rattle.linear_law.specs.Names.{matrix_times}
use Rattle.simplicial_law.specs.Names.{Cochain as SimplexCochain, HasCoordinates, IsCocycle}
use Rattle.steenrod_law.specs.Names.{IsBocksteinPower, IsPower}
use Rattle.bockstein_law.specs.Bockstein.{bockstein}
use Rattle.complex_index.specs.{Names.IsIndexOf, declared.indexed.Cochain.Cochain}
use Rattle.cohomology.specs.{Names.{IsColumnOf, cochains_at}, declared.basis.Column.Column}
use Rattle.bockstein.specs.Places.{IsBocksteinAt}

-- c is the column of the Bockstein of the class z of degree n
pub record IsBocksteinColumn {p : ℕ} (keeps : Bool) (levels : List (List (List ℕ))) (classes : ℕ → List (Cochain p)) (n : ℕ) (z : Cochain p) (c : Column p) : Type 0 where
  pub degree : z.degree ≡ n
  pub result : Cochain p
  pub is_result : IsBocksteinAt levels z result
  pub is_column : IsColumnOf p keeps levels (classes (n + 1)) result c.values.items c.primitive

-- the coordinates alone
abbrev pub values_of : {p : ℕ} → List (Column p) → List (List ℕ)
values_of {p} cs = map (λ (c : Column p). c.values.items) cs

-- The matrix of the Bockstein from degree n to the next, on the classes of each complex with these levels. It carries the
-- coordinates of every cocycle to those of its Bockstein; and the coordinates of P^s of a cocycle, where this has degree n, to
-- those of bP^s of the same cocycle: the matrix of bP^s is this matrix times that of P^s.
pub record IsBocksteinMatrix {p : ℕ} (keeps : Bool) (levels : List (List (List ℕ))) (classes : ℕ → List (Cochain p)) (n : ℕ) (columns : List (Column p)) : Type 0 where
  pub each : AllZip (IsBocksteinColumn keeps levels classes n) (classes n) columns
  pub carries : (facets : List (List ℕ)) (z : SimplexCochain) (cs : List ℕ) → IsIndexOf facets levels → HasCoordinates facets n p (cochains_at levels n (classes n)) z cs →
      HasCoordinates facets (n + 1) p (cochains_at levels (n + 1) (classes (n + 1))) (bockstein p z) (matrix_times p (length (classes (n + 1))) (values_of columns) cs)
  pub powers : (facets : List (List ℕ)) (q s : ℕ) (z b c : SimplexCochain) (power both : List ℕ) → IsIndexOf facets levels → n ≡ q + 2 * s * (p - 1) →
      IsCocycle facets q p z → IsPower facets p s q z b → IsBocksteinPower facets p s q z c →
      HasCoordinates facets n p (cochains_at levels n (classes n)) b power → HasCoordinates facets (n + 1) p (cochains_at levels (n + 1) (classes (n + 1))) c both →
      both ≡ matrix_times p (length (classes (n + 1))) (values_of columns) power
