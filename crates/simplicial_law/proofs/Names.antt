-- The lemmas that others cite, passed on from one place. Declares nothing.
pub use Rattle.simplicial_law.proofs.Order.{lists_compare, lists_strict}
pub use Rattle.simplicial_law.proofs.UnitCochains.{unit_away, unit_here}
pub use Rattle.simplicial_law.proofs.RowValues.{value_by_place}
pub use Rattle.simplicial_law.proofs.SubsetLemmas.{subsets_keep, subsets_whole}
pub use Rattle.simplicial_law.proofs.Bases.{bounds_close, classes, coboundaries, coboundary_plus, coboundary_same, coboundary_twice, coboundary_zero, cocycles, face_simplex}
pub use Rattle.simplicial_law.proofs.DegreeZero.{coboundary-vertex, no_bounds}
pub use Rattle.simplicial_law.proofs.SimplexPlaces.{agree_by_place, canonical_up, cochain_at-value, in_order_more, lead_up, ordered_places, pivot_down, pivot_up, simplex_at}
pub use Rattle.simplicial_law.proofs.DegreeMaps.{IsLinearMap, by_place, combined_rows, linear_by_place}
pub use Rattle.simplicial_law.proofs.WalkedDegreeLemmas.{coboundary_down, coboundary_up, cocycle_down, cocycle_up, linear}
pub use Rattle.simplicial_law.proofs.IntegralCongruence.{sign-two, CongruentInt-neg, CongruentInt-scale, CongruentInt-signed, CongruentInt-sum, CongruentInt-times, CongruentInt_from, CongruentInt_multiple, CongruentInt_of, CongruentInt_refl, CongruentInt_sym, CongruentInt_trans}
pub use Rattle.simplicial_law.proofs.IntegralBridge.{integral_coboundary_law, integral_congruence_law, negated_whole, residues, whole}
pub use Rattle.simplicial_law.proofs.OrderedKeys.{among_found, among_inserted, insert_keeps, insert_puts, sorted_inserted, sorted_same}
pub use Rattle.simplicial_law.proofs.Sublists.{of_map, sublist_first, sublist_of_rest, sublist_whole, sublist_whole_or_less, sublist_with, sublists_cases, sublists_twice, sublists_without, without}
pub use Rattle.simplicial_law.proofs.ListedSimplices.{all_put, exact, fold_keeps, fold_puts, get_or_any, in_filter, length_of_test, listed_simplices_law, of_all, of_degree_sorted, of_filter, of_fold, once_in_order, place_of_among, simplices_closed, simplices_push, simplices_sorted, simplices_sound, simplices_whole, sorted_fold, sorted_in_order, sublists_keep, sublists_some, test_of_length}
pub use Rattle.simplicial_law.proofs.DualLemmas.{coordinates_are}
pub use Rattle.linear_law.proofs.Names.{each_of_index as each_of}
