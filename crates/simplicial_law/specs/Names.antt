-- The definitions that others cite, passed on from one place. Declares nothing.
pub use Rattle.simplicial_law.specs.Simplices.{IsInOrder, IsSimplex, Precedes, subsets}
pub use Rattle.simplicial_law.specs.Cochains.{AgreesOnSimplices, Chain, Cochain, HasCoordinates, IsBasisModulo, IsCoboundary, IsCocycle, IsCohomologyBasis, alternating_chain, boundary, coboundary, faces, is_same_list, pairing, unit_cochain}
pub use Rattle.simplicial_law.specs.Canonical.{AreDualCycles, IsCanonicalClass, IsCanonicalCoboundary, IsCanonicalModulo, IsCanonicalPrimitive, IsCoboundaryPivot, IsCocyclePivot, canonical_cycle, no_cochain, pairings}
pub use Rattle.simplicial_law.specs.CanonicalClasses.{AreCanonicalBases, AreCanonicalClasses, AreCanonicalModulo, AreTerms, IsCanonicalBasis, IsCanonicalBasisModulo, cochain_of}
pub use Rattle.simplicial_law.specs.Integral.{AllCongruent, CongruentInt, HasDegree, HaveDegrees, degree, integral_coboundary, tensor_boundary}
pub use Rattle.simplicial_law.specs.Places.{IsCoboundaryByPlace, IsCoboundaryRow, IsRowOf, cochain_at, terms_of}
pub use Rattle.simplicial_law.specs.Laws.{CoboundaryTwiceLaw, CountingLaw, DualCyclesLaw, IntegralCoboundaryLaw, IntegralCocycleLaw, IntegralCongruenceLaw, OrderLaw, SubsetsLaw, TriangleRows}
pub use Rattle.simplicial_law.specs.ListedSimplices.{IsClosed, ListedSimplicesLaw, of_degree, simplex_cmp, sublists}
