-- The definitions that others cite, passed on from one place. Declares nothing.
pub use Rattle.class_matrices.specs.declared.coordinates.Coordinates.{Coordinates}
pub use Rattle.class_matrices.specs.declared.matrices.Matrices.{Matrices}
pub use Rattle.class_matrices.specs.declared.matrices.OperationMatrix.{OperationMatrix}
pub use Rattle.class_matrices.specs.declared.matrices.ProductMatrix.{ProductMatrix}
pub use Rattle.class_matrices.specs.Listed.{class_counts, listed_classes}
pub use Rattle.class_matrices.specs.Matrices.{AreMatrices, IsFound, IsOperationOf, IsProductOf}
pub use Rattle.class_matrices.specs.Sums.{Fits, sum_onto, unit_coordinates}
pub use Rattle.class_matrices.specs.Coordinates.{HasThese, IsSetting}
