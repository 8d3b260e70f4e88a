-- The definitions that others cite, passed on from one place. Declares nothing.
pub use Rattle.linear_law.specs.Congruence.{Congruent, IsField, negated, sum_over}
pub use Rattle.linear_law.specs.Lists.{Among, Each, IsApart, IsAscending, copies}
pub use Rattle.linear_law.specs.ReducedBases.{AgreesOn, IsEchelon, IsReduced, IsReducedBasis, IsSubspace, combination, expansion}
pub use Rattle.linear_law.specs.Pivots.{IsCanonical, IsLead, IsPivot}
pub use Rattle.linear_law.specs.Elimination.{ImageVector, IsImage, IsInKernel, IsLinear, KernelVector}
pub use Rattle.linear_law.specs.Listing.{ListsAll, row_combination, row_combination_from, unit_sum_from, unit_vector}
pub use Rattle.linear_law.specs.Triangular.{CountedWalk, HasReducedBasis, LeadsAt, PlacedVector, Skips, StartsAt, Walked, image_place, kernel_place, place_of}
pub use Rattle.linear_law.specs.Pairing.{IsCycle, paired}
pub use Rattle.linear_law.specs.Matrices.{CarriesCoordinates, CarriesRelated, IsCoordinates, IsMatrixOf, matrix_times, plus_scaled}
pub use Rattle.linear_law.specs.Laws.{CongruenceLaws, CountedWalkLaw, PrimeFields, WalkLaw}
