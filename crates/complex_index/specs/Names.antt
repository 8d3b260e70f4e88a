-- The definitions that others cite, passed on from one place. Declares nothing.
pub use Rattle.complex_index.specs.declared.cofaces.Coface.{Coface}
pub use Rattle.complex_index.specs.declared.levels.Level.{Level}
pub use Rattle.complex_index.specs.Incidence.{AddsPlaces, AreBounds, ArePlaces, ArePlacesOf, above_at, list_at, lists_of, marks, parts, simplex_at}
pub use Rattle.complex_index.specs.Levels.{AreLevels, Fits, IsComplexIndex, IsIndex, IsIndexOf, IsIndexed, cofaces_at, faces_at, level, lists}
pub use Rattle.complex_index.specs.Chains.{IsBoundaryOf, IsCoboundaryOf, boundary_coefficient, pair_of, shrunk, signed_places, signed_value, spread}
pub use Rattle.complex_index.specs.Maps.{IsPullBackOf, image_of}
