-- The coordinates of a cocycle, and canonical primitives.
use Rattle.std.specs.Prelude.{◌≡◌, ◌≢◌, ℕ, ◌+◌, ◌*◌, ◌-◌, ◌<◌, List, [], length, get_or}
use Rattle.linear_law.specs.Names.{Congruent, negated, sum_over, combination}
use Rattle.simplicial_law.specs.Names.{AgreesOnSimplices, Cochain as SimplexCochain, HasCoordinates, IsCoboundary, IsCocycle, coboundary, IsCanonicalPrimitive}
use Rattle.sparse_rows.specs.Rows.{value_in}
use Rattle.complex_index.specs.{Names.{IsIndexOf, level}, declared.indexed.Cochain.Cochain}
use Rattle.relative_law.specs.Names.{HasRelativeCoordinates, IsRelativeCocycle, IsCanonicalRelativePrimitive}
use Rattle.cohomology.specs.{declared.coordinates.CoordinatesRefused.CoordinatesRefused, declared.coordinates.CoordinatesRefused.TheVariants.{NotClosed, OutOfMemory}, declared.data.Coboundary.Coboundary, Pairs.IsPairIndexOf, Classes.{IsPlaced, cochain_in}, Values.cochains_at}

-- the value of the coboundary at the simplex one degree up at a place
abbrev pub coboundary_at : ℕ → List (List (List ℕ)) → ℕ → List (ℕ × ℕ) → ℕ → ℕ
coboundary_at p levels n row j = coboundary p (cochain_in levels n row) (get_or (level levels (n + 1)) j [])

-- The coboundary is not zero: at `place`, the least simplex where it is not, it has this value.
pub record IsOpenAt (p : ℕ) (levels : List (List (List ℕ))) (n : ℕ) (row : List (ℕ × ℕ)) (place value : ℕ) : Type 0 where
  pub inside : place < length (level levels (n + 1))
  pub nonzero : value ≢ 0
  pub small : value < p
  pub value_is : Congruent p value (coboundary_at p levels n row place)
  pub least : (j : ℕ) → j < place → Congruent p (coboundary_at p levels n row j) 0

-- what a refusal tells of the cochain
abbrev pub RefusesCoordinates : {p : ℕ} → List (List (List ℕ)) → Cochain p → CoordinatesRefused → Type 0
RefusesCoordinates levels z OutOfMemory = Unit {0}
RefusesCoordinates {p} levels z (NotClosed place value) = IsOpenAt p levels z.degree z.row place value

-- the cochain is a cocycle of each complex with these levels, and a relative cocycle of each pair
abbrev pub IsClosedIn : (p : ℕ) → List (List (List ℕ)) → Cochain p → Type 0
IsClosedIn p levels z = (facets : List (List ℕ)) → IsIndexOf facets levels → IsCocycle facets z.degree p (cochain_in levels z.degree z.row)

abbrev pub IsRelativeIn : (p : ℕ) → List (List (List ℕ)) → List (List (List ℕ)) → Cochain p → Type 0
IsRelativeIn p full sub z = (facets parts : List (List ℕ)) → IsPairIndexOf facets parts full sub → IsRelativeCocycle facets parts z.degree p (cochain_in full z.degree z.row)

-- y is the canonical primitive of the cochain z of degree n, at places of simplices one degree below.
-- In degree 0 both are zero, and y has degree 0.
pub record IsPrimitiveOf (p : ℕ) (levels : List (List (List ℕ))) (n : ℕ) (z : SimplexCochain) (y : Cochain p) : Type 0 where
  pub placed : IsPlaced p levels (n - 1) y
  pub canonical : (facets : List (List ℕ)) → IsIndexOf facets levels → 0 < n → IsCanonicalPrimitive facets (n - 1) p z (cochain_in levels (n - 1) y.row)
  pub zero : (facets : List (List ℕ)) → IsIndexOf facets levels → n ≡ 0 → AgreesOnSimplices facets 0 p z (λ s. 0) × (y.row ≡ [])

-- the same with relative cochains
pub record IsRelativePrimitiveOf (p : ℕ) (full sub : List (List (List ℕ))) (n : ℕ) (z : SimplexCochain) (y : Cochain p) : Type 0 where
  pub placed : IsPlaced p full (n - 1) y
  pub canonical : (facets parts : List (List ℕ)) → IsPairIndexOf facets parts full sub → 0 < n → IsCanonicalRelativePrimitive facets parts (n - 1) p z (cochain_in full (n - 1) y.row)
  pub zero : (facets parts : List (List ℕ)) → IsPairIndexOf facets parts full sub → n ≡ 0 → AgreesOnSimplices facets 0 p z (λ s. 0) × (y.row ≡ [])

-- the cochain z of degree n is not the coboundary of any cochain
abbrev pub IsNoCoboundary : ℕ → List (List (List ℕ)) → ℕ → SimplexCochain → Type 0
IsNoCoboundary p levels n z = (facets : List (List ℕ)) → IsIndexOf facets levels → IsCoboundary facets n p z → ⊥

-- z less the combination of the classes with these coefficients
abbrev pub rest_in : {p : ℕ} → List (List (List ℕ)) → List (Cochain p) → List ℕ → Cochain p → SimplexCochain
rest_in {p} levels classes values z s = cochain_in levels z.degree z.row s + negated p (combination values (cochains_at levels z.degree classes) s)

-- z is a cocycle, and these are its coordinates for the classes and the canonical primitive of the rest
pub record AreCoordinates (p : ℕ) (levels : List (List (List ℕ))) (classes : List (Cochain p)) (z : Cochain p) (values : List ℕ) (primitive : Cochain p) : Type 0 where
  pub closed : IsClosedIn p levels z
  pub coordinates : (facets : List (List ℕ)) → IsIndexOf facets levels → HasCoordinates facets z.degree p (cochains_at levels z.degree classes) (cochain_in levels z.degree z.row) values
  pub primitive_of : IsPrimitiveOf p levels z.degree (rest_in levels classes values z) primitive

-- the same of a relative cocycle
pub record AreRelativeCoordinates (p : ℕ) (full sub : List (List (List ℕ))) (classes : List (Cochain p)) (z : Cochain p) (values : List ℕ) (primitive : Cochain p) : Type 0 where
  pub coordinates : (facets parts : List (List ℕ)) → IsPairIndexOf facets parts full sub →
      HasRelativeCoordinates facets parts z.degree p (cochains_at full z.degree classes) (cochain_in full z.degree z.row) values
  pub primitive_of : IsRelativePrimitiveOf p full sub z.degree (rest_in full classes values z) primitive

-- the sum of the primitives, each times the value of z at its pivot
abbrev pub primitives_sum : {p : ℕ} → List (Coboundary p) → List (ℕ × ℕ) → ℕ → ℕ
primitives_sum {p} coboundaries z x = sum_over (λ (b : Coboundary p). value_in z b.pivot * value_in b.primitive.row x) coboundaries
