-- The lemmas that others cite, passed on from one place. Declares nothing.
pub use Rattle.linear_law.proofs.CongruenceLemmas.{Congruent_add, Congruent_cancel, Congruent_from, Congruent_mod, Congruent_mul, Congruent_multiple, Congruent_of, Congruent_refl, Congruent_scale, Congruent_sym, Congruent_trans, add-negated}
pub use Rattle.linear_law.proofs.SumLemmas.{sum_append, sum_map}
pub use Rattle.linear_law.proofs.ListLemmas.{among_left, among_map, among_right, each_alike, each_among, each_append, each_from_index, each_get_or, each_itself, each_map, each_of_map, each_push, each_right, each_take, each_unmap, each_zip, get_before, get_last, length_alike, length_push, zip_change, zip_each, zip_from_index, zip_left, zip_push, zip_right}
pub use Rattle.linear_law.proofs.ReducedLemmas.{coefficients, coefficients_count, coefficients_small, combination_expanded, combination_in, combination_vanishes, expanded_in, same_coefficients, sum_picks, sum_vanishes}
pub use Rattle.linear_law.proofs.PivotLemmas.{not_zero, one-nonzero, reduced_apart, reduced_one, same_or_not, zero_or_not}
pub use Rattle.linear_law.proofs.RowCombinations.{row_combination-linear, row_combination-row, unit_one, unit_other}
pub use Rattle.linear_law.proofs.UnitSums.{unit_sum-past, unit_sum-spans, unit_sum-value, unit_sum-values}
pub use Rattle.linear_law.proofs.CanonicalVectors.{unit_sum-lead}
pub use Rattle.linear_law.proofs.Counting.{apart_all, apart_short, counted_span}
pub use Rattle.linear_law.proofs.Primes.{five_field, three_field, two_field}
pub use Rattle.linear_law.proofs.LeadLemmas.{least_or_zero, mul_nonzero, nonzero_alike, same_of_difference, zero_if}
pub use Rattle.linear_law.proofs.TriangularBases.{each_of_index, found}
pub use Rattle.linear_law.proofs.CycleLemmas.{cycle_bound, cycle_value, pair_none, pair_one, pair_two, paired_plus, paired_same}
pub use Rattle.linear_law.proofs.WalkSteps.{add_it, keep_it, skip_it, start_it}
pub use Rattle.linear_law.proofs.WalkedSpaces.{classes_span, image_basis, image_pivot, kernel_canonical, kernel_fresh, kernel_leads, kernel_pivot, kernel_space, lead_pivot, primitive_vanishes}
pub use Rattle.linear_law.proofs.Walks.{counted_walk}
pub use Rattle.linear_law.proofs.QuotientBases.{coordinates, coordinates_count, coordinates_only, coordinates_rest, coordinates_small}
pub use Rattle.linear_law.proofs.Matrices.{columns-combined, copies-small, coordinates-alike, coordinates-apart, from_columns, length-copies, plus_scaled-length, plus_scaled-small}
pub use Rattle.linear_law.proofs.ClassMaps.{IsClassSpace, IsLinearOnClasses, IsSameClass, class_combination, class_matrix, class_of, class_trans, combination_member, coordinates-zero, member_of, multiple_in, nothing, on_classes, related_matrix, zero-coordinates, zip_same, zip_through}
