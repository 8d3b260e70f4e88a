-- The definitions that others cite, passed on from one place. Declares nothing.
pub use Rattle.complex_file.specs.declared.block.ComplexBlock.{ComplexBlock}
pub use Rattle.complex_file.specs.declared.block.MapBlock.{MapBlock}
pub use Rattle.complex_file.specs.declared.block.Sent.{Sent}
pub use Rattle.complex_file.specs.declared.fault.BlockFault.{BlockFault}
pub use Rattle.complex_file.specs.declared.fault.JobRefused.TheVariants.{OutOfMemory}
pub use Rattle.complex_file.specs.declared.fault.LineFault.{LineFault}
pub use Rattle.complex_file.specs.declared.fault.LineFault.TheVariants.{Memory}
pub use Rattle.complex_file.specs.declared.kind.InputKind.{InputKind}
pub use Rattle.complex_file.specs.declared.kind.InputKind.TheVariants.{FacetTooWide, ImageNotASimplex, NotOrderPreserving, NotText, OtherPrime, TooLong, TooManySimplices, Unfinished, UnknownName, VertexNotSent, VertexSentTwice, VertexUnknown}
pub use Rattle.complex_file.specs.Text.{begins_with_letter, is_allowed, is_blank, is_digit, is_letter, is_line_end, is_name, is_name_byte, is_not_empty, is_word, lines, number_after, words}
pub use Rattle.complex_file.specs.Lines.{Line, begins_with_hash, complex_line, end_line, facet_line, heading, is_skipped, line_of, line_of_complex, line_of_facet, line_of_few, line_of_four, line_of_three, line_of_two, map_line, no_line, numbers, prime_line, send_line, send_of, with_number}
pub use Rattle.complex_file.specs.Complexes.{ascending, complex_fault, facet_fault, facet_of, first_facet_fault, has_repeat, has_vertex, is_ascending, is_complex, is_facet, or_later, unless, with_facet}
pub use Rattle.complex_file.specs.Maps.{end_fault, first_send_fault, image, image_of_facet, is_sent, is_vertex, keeps_edge, keeps_order, keeps_simplices, map_fault, send_fault, sends_each, with_send}
pub use Rattle.complex_file.specs.Jobs.{are_distinct, block_names, facets_at, has_name, is_map, place_of_name}
pub use Rattle.complex_file.specs.Input.{Fault, Place, Spelled, Step, after, after_complex, after_facet, after_map, after_map_end, after_prime, after_send, after_words, at_end, at_line, at_prime, at_start, begun_map, between, in_complex, in_map, lines_spell, place_after, with_complex, with_facets, with_map, with_sends, with_vertices, ◌>>=◌}
pub use Rattle.complex_file.specs.FaultTable.{IsLong, IsOnLine, IsUnfinished, ReadsTo, first_kind, tried}
pub use Rattle.complex_file.specs.Kinds.{kind_number}
pub use Rattle.complex_file.specs.Sends.{sends_in}
pub use Rattle.complex_file.specs.Reading.{Fails, Gives, GivesInput}
pub use Rattle.complex_file.specs.Views.{complex_seen, content, line_seen, map_seen, place_seen, texts}
pub use Rattle.complex_file.specs.Written.{complex_lines, facet_words, job_lines, map_lines, name_at, send_words, spaced, written}
pub use Rattle.complex_file.specs.Laws.{FirstFaultLaw, SpelledJobLaw, WrittenJobLaw}
