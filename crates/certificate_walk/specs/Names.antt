-- The definitions that others cite, passed on from one place. Declares nothing.
pub use Rattle.certificate_walk.specs.declared.stop.Stop.{Stop}
pub use Rattle.certificate_walk.specs.declared.stop.Stop.TheVariants.{Fails, OutOfMemory}
pub use Rattle.certificate_walk.specs.Walks.{FailsBehind, IsWalk}
pub use Rattle.certificate_walk.specs.Sizes.{complex_lines, degree_lines, induced_lines, map_lines, matrix_lines, operation_lines, product_lines}
