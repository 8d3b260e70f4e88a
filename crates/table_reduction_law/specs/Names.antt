-- The definitions that others cite, passed on from one place. Declares nothing.
pub use Rattle.table_reduction_law.specs.Tuples.{IsPermutationOf, IsTuple, begins_with_entry, entry_at, is_degenerate_tuple, is_zero_tuple, permuted_tuple, tuple_arity, tuple_boundary, tuple_degree}
pub use Rattle.table_reduction_law.specs.Reduction.{cons_if_zero, reduced_lists, row_lengths, rows, table_reduction, unused, with_longer_first}
pub use Rattle.table_reduction_law.specs.MayElements.{cycle, cycle_power, leading_entries, may_candidates, may_element, may_tuples, pair_count, power_pairs, turned, turned_values}
pub use Rattle.table_reduction_law.specs.Counts.{ArePositive, binomial, candidate_count, in_turn}
pub use Rattle.table_reduction_law.specs.Laws.{CandidateCountLaw, DegenerateTupleLaw, MayRelations, MayTermsLaw, MayTwoLaw, ReducedListsLaw, ReductionActionLaw, ReductionBoundaryLaw, ReductionRows, RowLengthsLaw, TupleActionLaw, TupleBoundaryLaw}
