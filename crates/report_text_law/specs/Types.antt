-- The types of the crates below, passed on from one place. Declares nothing.
pub use Rattle.complex_file.specs.declared.block.Sent.{Sent}
pub use Rattle.report.specs.declared.columns.CartanAnswer.{CartanAnswer}
pub use Rattle.report.specs.declared.columns.CartanAnswer.TheVariants.{No, Yes}
pub use Rattle.report.specs.declared.columns.CartanPart.{CartanPart}
pub use Rattle.report.specs.declared.columns.Column.{Column}
pub use Rattle.report.specs.declared.columns.OpWord.{OpWord}
pub use Rattle.report.specs.declared.columns.OperationPart.{OperationPart}
pub use Rattle.report.specs.declared.columns.PairColumn.{PairColumn}
pub use Rattle.report.specs.declared.columns.ProductPart.{ProductPart}
pub use Rattle.report.specs.declared.complex.ComplexPart.{ComplexPart}
pub use Rattle.report.specs.declared.complex.DegreePart.{DegreePart}
pub use Rattle.report.specs.declared.form.Form.{Form}
pub use Rattle.report.specs.declared.form.Form.TheVariants.{Basis, Certificate, Short}
pub use Rattle.report.specs.declared.job.Report.{Report}
pub use Rattle.report.specs.declared.map.InducedPart.{InducedPart}
pub use Rattle.report.specs.declared.map.MapPart.{MapPart}
