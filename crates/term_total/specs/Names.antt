-- The definitions that others cite, passed on from one place. Declares nothing.
pub use Rattle.term_total.specs.declared.counts.Counted.{Counted}
pub use Rattle.term_total.specs.declared.plan.Addend.{Addend}
pub use Rattle.term_total.specs.declared.plan.Applied.{Applied}
pub use Rattle.term_total.specs.declared.plan.Row.{Row}
pub use Rattle.term_total.specs.LiveParts.{is_class_pair, is_live_block, is_live_line, is_live_product, line_of, lines_of_class, lines_of_degree, lines_of_degrees, live_blocks, operations_with, product_of}
pub use Rattle.term_total.specs.Charges.{Charges, IsCount, repeated, sum_of}
pub use Rattle.term_total.specs.Counts.{AreCounted, AreReady, CanBeMade, IsBlock, IsLine, IsPair, IsPart, IsReady, IsThere, Keeps, addend_number, applied_to, block_addend, block_row, class_pairs, complex_uses, elements_in, line_addend, line_operations, line_uses, live_total, operation_number, pair_lines, pair_operations, pair_row, part_rows, plan, row_elements, row_numbers, use_of, uses}
