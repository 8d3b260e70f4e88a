use Rattle.std.specs.Prelude.{ℕ, ◌<◌, List, length}
use Rattle.simplicial_law.specs.ListedSimplices.{simplices}
use Rattle.simplex_set.specs.declared.open.{FacetRefused.FacetRefused, FacetRefused.TheVariants.{OutOfMemory, TooManySimplices}}

-- what a refusal tells of the facets, the new one among them
abbrev pub Refuses : ℕ → List (List ℕ) → FacetRefused → Type 0
Refuses limit facets OutOfMemory = Unit {0}
Refuses limit facets TooManySimplices = limit < length (simplices facets)
