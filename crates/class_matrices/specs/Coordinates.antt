-- Coordinates of cocycles for the classes of a complex.
use Rattle.std.specs.Prelude.{ℕ, Bool, List}
use Rattle.simplicial_law.specs.Names.{Cochain as SimplexCochain, HasCoordinates, IsCocycle}
use Rattle.complex_index.specs.{declared.indexed.Cochain.Cochain, Names.IsIndexOf}
use Rattle.cohomology.specs.Names.{AreCanonicalIn, cochains_at}
use Rattle.class_matrices.specs.{declared.coordinates.Coordinates.Coordinates, declared.matrices.Matrices.Matrices, Listed.class_counts, Matrices.AreMatrices}

-- a complex with these levels, its canonical classes, and its matrices
pub record IsSetting {p : ℕ} (detailed : Bool) (facets : List (List ℕ)) (levels : List (List (List ℕ))) (classes : ℕ → List (Cochain p)) (m : Matrices p) : Type 0 where
  pub index : IsIndexOf facets levels
  pub canonical : (n : ℕ) → AreCanonicalIn p levels n (classes n)
  pub matrices : AreMatrices detailed levels classes (class_counts levels classes) m

-- z is a cocycle, and these are its coordinates
pub record HasThese {p : ℕ} (facets : List (List ℕ)) (levels : List (List (List ℕ))) (classes : ℕ → List (Cochain p)) (z : SimplexCochain) (c : Coordinates p) : Type 0 where
  pub closed : IsCocycle facets c.degree p z
  pub coordinates : HasCoordinates facets c.degree p (cochains_at levels c.degree (classes c.degree)) z c.values.items
