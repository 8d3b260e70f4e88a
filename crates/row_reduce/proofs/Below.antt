-- The names of the crates below that the proofs cite, passed on from one place. Declares nothing.
pub use Rattle.fp_field.proofs.ServedLemmas.{served_field, served_large}
pub use Rattle.linear_law.proofs.Names.{Congruent_add, Congruent_from, Congruent_mod, Congruent_mul, Congruent_of, Congruent_refl, Congruent_scale, Congruent_sym, Congruent_trans, add-negated, add_it, classes_span, each_alike, each_among, each_from_index, each_get_or, each_map, each_of_index, each_of_map, each_push, each_right, each_unmap, each_zip, found, get_before, get_last, keep_it, length-copies, length_alike, length_push, nonzero_alike, not_zero, one-nonzero, pair_none, paired_plus, paired_same, reduced_apart, reduced_one, row_combination-linear, row_combination-row, skip_it, start_it, sum_append, sum_picks, sum_vanishes, unit_one, unit_other, zip_change, zip_each, zip_push}
pub use Rattle.linear_law.specs.Names.{AgreesOn, Among, Congruent, Each, ImageVector, IsApart, IsAscending, IsCanonical, IsField, IsImage, IsLead, IsLinear, IsPivot, IsReduced, KernelVector, LeadsAt, Skips, StartsAt, Walked, copies, expansion, image_place, kernel_place, negated, paired, row_combination_from, sum_over, unit_vector}
pub use Rattle.sparse_rows.proofs.MergeLemmas.{put_sum}
pub use Rattle.sparse_rows.proofs.PairedRows.{paired_row}
pub use Rattle.sparse_rows.proofs.RowLemmas.{below_of_zero, sum_take, value_in-past, value_in-small}
pub use Rattle.sparse_rows.specs.Rows.{IsBelow, IsFirst, IsRow, value_in}
pub use Rattle.std.proofs.Math.ListN.{drop_of_length-le}
pub use Rattle.std.proofs.lemmas.Bool.{cases_eq, cases_lt}
pub use Rattle.std.proofs.lemmas.Grind.{reverse_onto}
pub use Rattle.std.proofs.lemmas.List.{get_or_append_left, get_or_default, get_or_past, length-map, length-reverse, reverse-append, reverse-reverse, take_more}
pub use Rattle.std.specs.List.{AllZip}
pub use native.Mathlib.Nat.{zero-mod}
