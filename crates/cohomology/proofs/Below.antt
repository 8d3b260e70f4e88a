-- The names of the crates below that the proofs cite, passed on from one place. Declares nothing.
pub use Rattle.complex_index.specs.Names.{IsCoboundaryOf, IsComplexIndex, IsIndexOf, level}
pub use Rattle.complex_index.specs.declared.indexed.Cochain.{Cochain as PlacedCochain}
pub use Rattle.cycle_table.proofs.CombinedLemmas.{combined_paired}
pub use Rattle.cycle_table.specs.Tables.{AreCycles, AreFree, column}
pub use Rattle.fp_field.proofs.ServedLemmas.{served_field}
pub use Rattle.linear_law.proofs.Names.{Congruent_add, Congruent_from, Congruent_mod, Congruent_mul, Congruent_of, Congruent_refl, Congruent_scale, Congruent_sym, Congruent_trans, add-negated, among_map, cycle_bound, cycle_value, each_alike, each_among, each_append, each_from_index, each_get_or, each_itself, each_map, each_of_map, each_right, each_unmap, each_zip, expanded_in, found, get_before, get_last, image_pivot, length-copies, length_alike, length_push, not_zero, one-nonzero, pair_two, paired_plus, paired_same, reduced_apart, reduced_one, row_combination-row, same_or_not, sum_picks, sum_vanishes, unit_one, unit_other, zero_if, zip_change, zip_from_index, zip_push}
pub use Rattle.linear_law.specs.Names.{Among, Congruent, Each, IsAscending, IsCanonical, IsField, IsImage, IsLinear, IsPivot, IsReduced, IsSubspace, KernelVector, LeadsAt, ListsAll, Walked, combination, copies, expansion, kernel_place, negated, paired, sum_over, unit_vector}
pub use Rattle.relative_law.proofs.AbsoluteLaws.{absolute_law, no_simplex_law}
pub use Rattle.relative_law.proofs.Covered.{covered_simplex, simplex_covered}
pub use Rattle.relative_law.proofs.RelativeBases.{bound_down, bound_places, bounds_by_place, canonical_basis, canonical_bound, canonical_primitive}
pub use Rattle.relative_law.proofs.RelativeDegrees.{IsOuterByPlace, coboundary_down, coboundary_up, cocycle_down, linear, rows_by_place}
pub use Rattle.relative_law.proofs.Spaces.{forget_bound, no_bound_below, relative_close, relative_coboundaries, relative_cocycles, restricted}
pub use Rattle.relative_law.specs.Names.{AreRelativeBoundPlaces, AreSkippedPlaces, HasRelativeCoordinates, IsCanonicalRelativeBasis, IsCanonicalRelativeClass, IsCanonicalRelativeCoboundary, IsCanonicalRelativePrimitive, IsRelativeCoboundary, IsRelativeCoboundaryPivot, IsRelativeCoboundaryRow, IsRelativeCocyclePivot, IsSubcomplex, is_covered}
pub use Rattle.row_reduce.proofs.EliminationLemmas.{maps_alike}
pub use Rattle.row_reduce.proofs.SolvedLemmas.{some_or_none, stored_lead}
pub use Rattle.row_reduce.proofs.StepLemmas.{not_both, nowhere}
pub use Rattle.row_reduce.proofs.StoredLemmas.{some_none}
pub use Rattle.row_reduce.proofs.TriangularLemmas.{members}
pub use Rattle.row_reduce.specs.Names.{AreRows, AreTriangular, IsEchelonFrom, IsEchelonRow, IsLeadIn, IsMarkedIn, IsSolved, IsSolvedStored, IsSolvedWhole, IsVectorRow, SkipsFit, StoredFits, combined, pivot_of, row_of, stored_place, stored_row}
pub use Rattle.row_reduce.specs.declared.EchelonRow.{EchelonRow}
pub use Rattle.row_reduce.specs.declared.Stored.{Stored}
pub use Rattle.simplicial_law.proofs.Names.{agree_by_place, bounds_close, coboundary_plus, coboundary_same, coboundary_zero, cochain_at-value, lead_up, lists_compare, lists_strict, pivot_down, simplex_at, unit_away, unit_here, value_by_place}
pub use Rattle.simplicial_law.specs.Names.{AgreesOnSimplices, Cochain, HasCoordinates, IsCanonicalClass, IsCoboundary, IsCoboundaryRow, IsCocycle, IsInOrder, IsRowOf, IsSimplex, Precedes, canonical_cycle, coboundary, cochain_at, cochain_of, no_cochain, pairing, terms_of, unit_cochain}
pub use Rattle.sparse_rows.proofs.MergeLemmas.{put_sum}
pub use Rattle.sparse_rows.proofs.RowLemmas.{below_of_zero, sum_take, value_in-at, value_in-none, value_in-small}
pub use Rattle.sparse_rows.specs.Rows.{IsBelow, IsFirst, IsRow, value_in}
pub use Rattle.std.proofs.Math.ListN.{length-map}
pub use Rattle.std.proofs.lemmas.Bool.{and_from, and_parts, cases_Bool, cases_eq, cases_lt, false≢true}
pub use Rattle.std.proofs.lemmas.List.{get_or-map, get_or_default, get_or_past, map-append, take_more}
pub use Rattle.std.proofs.lemmas.Option.{get_or_from_slice_get, slice_get_read, slice_get_within}
pub use Rattle.std.proofs.lemmas.Result.{IfOk-weaker}
pub use Rattle.std.proofs.lemmas.Simd.{map-map}
pub use Rattle.std.specs.List.{AllZip, list_all}
pub use Rattle.std.specs.Option.{is_some}
pub use Rattle.std.specs.declared.alloc.Global.{Global}
pub use native.Mathlib.Nat.{zero-mod}
