-- The definitions that others cite, passed on from one place. Declares nothing.
pub use Rattle.cohomology.specs.declared.classes.DegreeClasses.{DegreeClasses}
pub use Rattle.cohomology.specs.declared.coordinates.CoordinatesRefused.{CoordinatesRefused}
pub use Rattle.cohomology.specs.declared.coordinates.CoordinatesRefused.TheVariants.{OutOfMemory}
pub use Rattle.cohomology.specs.declared.data.Coboundary.{Coboundary}
pub use Rattle.cohomology.specs.Pairs.{AreBlanked, AreJoined, IsMarkTable, IsPairIndex, IsPairIndexOf, IsSubIndex}
pub use Rattle.cohomology.specs.Classes.{AreCanonicalIn, AreRelativeIn, AreStoredBounds, EachFrom, IsPivotTable, IsPlaced, IsReachedIn, chains_at, cochain_in, in_degree}
pub use Rattle.cohomology.specs.Cycles.{AreClassesOf, AreClassesOfPair, AreDualClasses, AreFewClasses, ArePivots, IsCanonicalCycle, IsColumnRow, IsDualTable, IsLeadOf, IsRelativeCycle, IsSpread, at_places, classes_in, table_in}
pub use Rattle.cohomology.specs.Values.{AreRelativeValues, cochains_at}
pub use Rattle.cohomology.specs.Data.{AreCoboundaries, AreFewCoboundaries, AreRelativeCoboundaries, CohomologyData, IsCoboundaryFrom, IsCoboundaryOf, IsCohomologyOf, IsCohomologyOfPair, IsPlacedCoboundary, IsRelativeCoboundaryOf, bounds_in, coboundaries_in, pivot_in}
pub use Rattle.cohomology.specs.Walk.{AreRowsOf, TellCoboundaries}
pub use Rattle.cohomology.specs.Coordinates.{AreCoordinates, AreRelativeCoordinates, IsClosedIn, IsNoCoboundary, IsOpenAt, IsPrimitiveOf, IsRelativeIn, IsRelativePrimitiveOf, RefusesCoordinates, coboundary_at, primitives_sum, rest_in}
pub use Rattle.cohomology.specs.Basis.{IsColumnOf, canonical_of_classes, canonical_of_data}
