-- The definitions that others cite, passed on from one place. Declares nothing.
pub use Rattle.report_reader.specs.declared.refused.ReadRefused.{ReadRefused}
pub use Rattle.report_reader.specs.declared.refused.ReadRefused.TheVariants.{OutOfMemory, ReportRefused}
pub use Rattle.report_reader.specs.Reading.{AreItems, Follows, HasRoom, IsItem, IsOpen, IsReading, Place, Reads, ReadsItem, ReadsReport, Refuses, Section, Shrinks, any, counted, if_line, is_finished, is_there, left, line_for, reading}
pub use Rattle.report_reader.specs.Sections.{HasColumns, belows, cartans, classes, columns, complexes, cycle_only, degrees, done_only, end_only, facets, induced_blocks, maps, operations, pairs, products, sends, with_only, within_classes, within_degrees, within_induced, within_operations}
