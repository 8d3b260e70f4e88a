-- The definitions that others cite, passed on from one place. Declares nothing.
pub use Rattle.report_text_law.specs.declared.state.ComplexHead.{ComplexHead}
pub use Rattle.report_text_law.specs.declared.state.ComplexStage.{ComplexStage}
pub use Rattle.report_text_law.specs.declared.state.ComplexStage.TheVariants.{Cartans, Facets, No, Values, Yes}
pub use Rattle.report_text_law.specs.declared.state.Finding.{Finding}
pub use Rattle.report_text_law.specs.declared.state.Graded.{Graded}
pub use Rattle.report_text_law.specs.declared.state.Judged.{Judged}
pub use Rattle.report_text_law.specs.declared.state.MapHead.{MapHead}
pub use Rattle.report_text_law.specs.declared.state.MapStage.{MapStage}
pub use Rattle.report_text_law.specs.declared.state.MapStage.TheVariants.{InducedValues, Sends}
pub use Rattle.report_text_law.specs.declared.state.Mapped.{Mapped}
pub use Rattle.report_text_law.specs.declared.state.Multiplied.{Multiplied}
pub use Rattle.report_text_law.specs.declared.state.Operated.{Operated}
pub use Rattle.report_text_law.specs.declared.state.State.{State}
pub use Rattle.report_text_law.specs.declared.state.State.TheVariants.{AtPrime, AtStart, Between, BetweenMaps, Finished, InComplex, InMap}
pub use Rattle.report_text_law.specs.Bytes.{after, chain_of, ended_at, guess, guess_cartan, guess_column, guess_complex, guess_degree, guess_head, guess_induced, guess_last, guess_line, guess_map, guess_no, guess_operation, guess_pair, guess_prime, guess_product, guess_send, guess_table, guess_yes, if_same, line_at, number, number_after, numbers, op_of, or_refused, read, read_from, read_text, simplex_of, spelled, term_of, term_pieces, with_digit}
pub use Rattle.report_text_law.specs.Certificates.{Begins, BeginsText, IsCertificate, IsRefused, Spells, pieces}
pub use Rattle.report_text_law.specs.Laws.{OneRefusedLine, OneReport, OutlineLaw, ReadingLaw}
pub use Rattle.report_text_law.specs.Lines.{Chain, Line, answer_lines, below_line, cartan_lines, cartan_no, cartan_yes, certificate_lines, class_line, column_line, columns_from, complex_line, complex_lines, cycle_line, degree_line, degree_lines, degrees_from, done_line, end_line, facet_line, heading_line, induced_line, induced_lines, map_line, map_lines, operation_line, operation_lines, pair_line, pair_lines, prime_line, product_line, product_lines, send_line, send_of, table_lines, with_line}
pub use Rattle.report_text_law.specs.Machine.{below_stands, class_stands, column_stands, complex_of, cycle_stands, degree_opens, facet_stands, graded_of, in_complex, in_map, induced_stands, judged_from, judged_of, map_of, map_opens, mapped_of, move, multiplied_from, multiplied_of, next, next_of_map, operated_from, operated_of, pair_stands, prime_of, report_of, run, step, values_stand, with_cartan, with_column, with_complex, with_degree, with_induced, with_induced_column, with_operation, with_pair, with_product, with_send, with_stands, ◌>>=◌}
pub use Rattle.report_text_law.specs.Rows.{WorkedTexts}
pub use Rattle.report_text_law.specs.Spelling.{behind, cartan_front, chain_words, ended, joined, op_word, printed, shown, term_word, words}
pub use Rattle.report_text_law.specs.WellFormed.{are_values, ascends, is_chain, is_line, is_simplex, is_term, is_u32, is_unit, is_vertex, terms_ascend}
