-- The names of the crates below that the proofs cite, passed on from one place. Declares nothing.
pub use Rattle.linear_law.proofs.Names.{Congruent_add, Congruent_from, Congruent_mod, Congruent_mul, Congruent_of, Congruent_refl, Congruent_scale, Congruent_sym, Congruent_trans, each_from_index, each_get_or, unit_one, unit_other}
pub use Rattle.linear_law.specs.Names.{Among, Congruent, IsApart, paired, row_combination_from, unit_vector}
pub use Rattle.row_reduce.proofs.GivesLemmas.{combined_linear}
pub use Rattle.row_reduce.proofs.SolvedLemmas.{number_among, some_or_none, stored_lead}
pub use Rattle.row_reduce.proofs.StoredLemmas.{some_is, some_none}
pub use Rattle.row_reduce.specs.Names.{AreTriangular, StoredFits, combined, stored_place, stored_row}
pub use Rattle.row_reduce.specs.declared.Stored.{Stored}
pub use Rattle.sparse_rows.proofs.MergeLemmas.{put_sum}
pub use Rattle.sparse_rows.proofs.RowLemmas.{sum_take}
pub use Rattle.sparse_rows.specs.Rows.{IsRow, value_in}
pub use Rattle.std.proofs.lemmas.Bool.{cases_eq}
pub use Rattle.std.proofs.lemmas.List.{get_or_default}
