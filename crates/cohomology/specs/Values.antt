-- The coordinates of relative cocycles.
use Rattle.std.specs.Prelude.{ℕ, List, map}
use Rattle.simplicial_law.specs.Names.{Cochain as SimplexCochain, cochain_of}
use Rattle.complex_index.specs.{Names.level, declared.indexed.Cochain.Cochain}
use Rattle.relative_law.specs.Names.{HasRelativeCoordinates, IsRelativeCocycle}
use Rattle.cohomology.specs.{Pairs.IsPairIndexOf, Classes.{chains_at, cochain_in}}

-- the cochains of classes of degree n
abbrev pub cochains_at : {p : ℕ} → List (List (List ℕ)) → ℕ → List (Cochain p) → List SimplexCochain
cochains_at levels n classes = map cochain_of (chains_at (level levels n) classes)

-- if z is a relative cocycle of the pair, these are its coordinates for the classes
abbrev pub AreRelativeValues : (p : ℕ) → List (List (List ℕ)) → List (List (List ℕ)) → List (Cochain p) → Cochain p → List ℕ → Type 0
AreRelativeValues p full sub classes z values = (facets parts : List (List ℕ)) → IsPairIndexOf facets parts full sub → IsRelativeCocycle facets parts z.degree p (cochain_in full z.degree z.row) →
    HasRelativeCoordinates facets parts z.degree p (cochains_at full z.degree classes) (cochain_in full z.degree z.row) values
