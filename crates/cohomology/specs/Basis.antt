-- What matrices are written over: columns of coordinates, with primitives where they are kept.
use Rattle.std.specs.Prelude.{◌≡◌, ℕ, Bool, true, false, List, MatchOption, Option}
use Rattle.simplicial_law.specs.Names.{HasCoordinates}
use Rattle.complex_index.specs.{Names.IsIndexOf, declared.indexed.Cochain.Cochain}
use Rattle.cohomology.specs.{declared.classes.DegreeClasses.DegreeClasses, Classes.{AreCanonicalIn, cochain_in}, Cycles.{AreClassesOf, classes_in}, Data.{CohomologyData, IsCohomologyOf}, Coordinates.{IsPrimitiveOf, rest_in}, Values.cochains_at}

-- the coordinates of the cocycle z for the classes, and where primitives are kept the canonical primitive of the rest
pub record IsColumnOf (p : ℕ) (keeps : Bool) (levels : List (List (List ℕ))) (classes : List (Cochain p)) (z : Cochain p) (values : List ℕ) (primitive : Option (Cochain p)) : Type 0 where
  pub coordinates : (facets : List (List ℕ)) → IsIndexOf facets levels → HasCoordinates facets z.degree p (cochains_at levels z.degree classes) (cochain_in levels z.degree z.row) values
  pub primitive_of : MatchOption primitive (keeps ≡ false) (λ y. (keeps ≡ true) × IsPrimitiveOf p levels z.degree (rest_in levels classes values z) y)

-- the classes of a complex are canonical bases
pub canonical_of_classes : (p : ℕ) (levels : List (List (List ℕ))) (c : List (DegreeClasses p)) → AreClassesOf p levels c → (n : ℕ) → AreCanonicalIn p levels n (classes_in c n)
canonical_of_classes p levels c h n = h.canonical n

pub canonical_of_data : (p : ℕ) (levels : List (List (List ℕ))) (c : CohomologyData p) → IsCohomologyOf p levels c → (n : ℕ) → AreCanonicalIn p levels n (classes_in c.light n)
canonical_of_data p levels c h n = h.classes.canonical n
