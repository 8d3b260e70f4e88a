-- The definitions that others cite, passed on from one place. Declares nothing.
pub use Rattle.relative_law.specs.Pairs.{HasRelativeCoordinates, IsRelativeBasis, IsRelativeCoboundary, IsRelativeCochain, IsRelativeCocycle, IsSubcomplex, is_covered}
pub use Rattle.relative_law.specs.RelativeClasses.{IsCanonicalRelativeBasis, IsCanonicalRelativeClass, IsCanonicalRelativeCoboundary, IsCanonicalRelativePrimitive, IsRelativeCoboundaryPivot, IsRelativeCocyclePivot}
pub use Rattle.relative_law.specs.RelativeElimination.{AreRelativeBoundPlaces, AreSkippedPlaces, IsRelativeCoboundaryRow}
pub use Rattle.relative_law.specs.Laws.{AbsoluteLaw, NoSimplexLaw, RelativeBasisLaw, RelativeDualLaw}
