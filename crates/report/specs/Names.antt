-- The definitions that others cite, passed on from one place. Declares nothing.
pub use Rattle.report.specs.Forms.{details, has_details, has_tables, outline, outline_answer, outline_column, outline_complex, outline_degree, outline_induced, outline_line, outline_map, outline_operation, outline_pair, outline_product, tables}
