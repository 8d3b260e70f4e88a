-- The relative coordinates of a relative cocycle are its pairings with dual cycles.
use Rattle.std.proofs.Common.{ℕ, List, subst}
use Rattle.simplicial_law.proofs.Names.{coordinates_are}
use Rattle.relative_law.specs.Names.{RelativeDualLaw, HasRelativeCoordinates, IsRelativeCoboundary}

pub relative_dual_law : RelativeDualLaw
relative_dual_law facets sub n p zs ys z field basis dual closed =
    let found = basis.coordinates z closed in
    subst (λ (vs : List ℕ). HasRelativeCoordinates facets sub n p zs z vs)
    (coordinates_are p (IsRelativeCoboundary facets sub n p) zs ys z found.0 field.large dual found.1.count found.1.small found.1.rest) found.1
