-- The definitions that others cite, passed on from one place. Declares nothing.
pub use Rattle.bockstein_text.specs.Bocksteins.{AreBocksteins, Bocksteins, IsBocksteinText, IsMatrix, Matrix, bockstein_degrees, bocksteins_text, columns_text, matrix_heading, matrix_text}
pub use Rattle.bockstein_text.specs.Steps.{Adds, IsListed, is_live}
