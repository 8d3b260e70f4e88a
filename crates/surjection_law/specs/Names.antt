-- The definitions that others cite, passed on from one place. Declares nothing.
pub use Rattle.surjection_law.specs.Boundary.{caesura_count, no_sign, place_signs, place_signs_from, surjection_boundary, with_sign}
pub use Rattle.surjection_law.specs.Places.{caesuras_among, caesuras_before_last, place_exponent, place_term, without_place}
pub use Rattle.surjection_law.specs.Surjections.{IsOnto, IsRelabelling, IsSurjection, arity, multiplicity, surjection_degree}
pub use Rattle.surjection_law.specs.Laws.{BoundaryPlacesLaw, BoundaryRows, CaesuraLaw, SurjectionBoundaryLaw, SurjectionTermsLaw}
