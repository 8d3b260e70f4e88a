-- The types of the crates below, passed on from one place. Declares nothing.
pub use Rattle.complex_file.specs.declared.block.ComplexBlock.{ComplexBlock}
pub use Rattle.complex_file.specs.declared.block.MapBlock.{MapBlock}
pub use Rattle.complex_file.specs.declared.block.Sent.{Sent}
pub use Rattle.complex_file.specs.declared.kind.InputKind.TheVariants.{FacetTooWide, ImageNotASimplex, NotOrderPreserving, TooManySimplices, VertexNotSent, VertexSentTwice, VertexUnknown}
pub use Rattle.report.specs.declared.columns.CartanAnswer.{CartanAnswer}
pub use Rattle.report.specs.declared.columns.CartanAnswer.TheVariants.{No, Yes}
pub use Rattle.report.specs.declared.columns.CartanPart.{CartanPart}
pub use Rattle.report.specs.declared.columns.Column.{Column}
pub use Rattle.report.specs.declared.columns.OpWord.{OpWord}
pub use Rattle.report.specs.declared.columns.OperationPart.{OperationPart}
pub use Rattle.report.specs.declared.columns.PairColumn.{PairColumn}
pub use Rattle.report.specs.declared.columns.ProductPart.{ProductPart}
pub use Rattle.report.specs.declared.complex.ComplexPart.{ComplexPart}
pub use Rattle.report.specs.declared.complex.DegreePart.{DegreePart}
pub use Rattle.report.specs.declared.form.Form.TheVariants.{Certificate}
pub use Rattle.report.specs.declared.job.Report.{Report}
pub use Rattle.report.specs.declared.map.InducedPart.{InducedPart}
pub use Rattle.report.specs.declared.map.MapPart.{MapPart}
pub use Rattle.report.specs.declared.plan.Block.{Block}
pub use Rattle.report.specs.declared.plan.Line.{Line}
pub use Rattle.report.specs.declared.plan.Op.{Op}
pub use Rattle.report.specs.declared.plan.Op.TheVariants.{BocksteinPower, Power, Square}
pub use Rattle.report.specs.declared.plan.Product.{Product}
pub use Rattle.report.specs.declared.plan.Sizes.{Sizes}
pub use Rattle.report_text_law.specs.declared.line.Line.{Line as TextLine}
pub use Rattle.report_text_law.specs.declared.line.Line.TheVariants.{Below as below_line, CartanNo as cartan_no, CartanYes as cartan_yes, Class as class_line, Column as column_line, Complex as complex_line, Cycle as cycle_line, Degree as degree_line, Done as done_line, End as end_line, Facet as facet_line, Heading as heading_line, Induced as induced_line, Map as map_line, Operation as operation_line, Pair as pair_line, Prime as prime_line, Product as product_line, With as with_line}
