-- The definitions that others cite, passed on from one place. Declares nothing.
pub use Rattle.report_law.specs.Live.{all_lines, block_on, blocks, cartan_op, cartan_pairs, class_numbers, degrees, element_degree, has_class, induced_degrees, is_defined, lines, lines_of_pair, may_degree, operations, products, target, target_degree}
pub use Rattle.report_law.specs.Differences.{IsCartanDifference, IsCartanProduct, IsOperation}
pub use Rattle.report_law.specs.Columns.{ArePivots, ArePrimitives, IsAnswer, IsColumn, IsCycleAt, IsCycleOf, IsFirstValue, IsObstruction, IsPrimitive, IsPrimitiveAt, rest_of}
pub use Rattle.report_law.specs.Matrices.{AreClasses, Classes, IsInducedBlock, IsLineDifference, IsOperationBlock, IsOperationColumn, IsProductBlock, IsVerdict, class_at, classes_in, cochains_in, line_degree, ranks}
pub use Rattle.report_law.specs.Parts.{below_in, block_of, classes_of, induced_matrix, induced_matrix_among, is_same_op, line_of, matrix_of, number_pairs, numbers_of, op_named, op_of, operation_matrix, operation_matrix_among, part_at, product_of, ranks_of, unnumbered}
pub use Rattle.report_law.specs.Reports.{AreMaximalFacets, AreOrderedSends, AreTables, IsCartanPart, IsComplexPart, IsInducedPart, IsMapPart, IsMaximal, IsOperationPart, IsProductPart, IsReportOf, IsWithin}
pub use Rattle.report_law.specs.Headline.{AreTermsBelow, BasesPromise, CartanPromise, ComplexPromise, Headline, InducedPromise, IsBoundedBy, IsCycle, IsDetectedBy, MapPromise, OperationPromise, ProductPromise, Says, boundary_coefficient, listed}
pub use Rattle.report_law.specs.Terms.{AreJobSizes, AreSizes, IsWithinLimit, PassesLimit, addends, block_terms, coefficient, complex_elements, complex_terms, elements, first_past, line_elements, line_terms, may_surjections, operation_terms, passing_sum, printed_count, simplex_counts, sizes_of}
pub use Rattle.report_law.specs.Laws.{FormsLaw, HeadlineLaw, LimitLaw, OneReportLaw, OperationLaw, SizesLaw}
pub use Rattle.report_law.specs.Rows.{WorkedRows}
pub use Rattle.report_law.specs.Point.{PointRow}
