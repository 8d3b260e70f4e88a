-- The lemmas that others cite, passed on from one place. Declares nothing.
pub use Rattle.signed_sum.proofs.Ring.{add-mul, mul-add, mul-neg, mul-sub, mul_assoc, mul_comm, neg-mul, one-mul}
pub use Rattle.signed_sum.proofs.SignLemmas.{signed-+, signed-mul, signed-neg, signed-parity, signed-signed, signed-swap, signed-zero}
pub use Rattle.signed_sum.proofs.ListLemmas.{Alike, Alike-append, Alike-cons, is_same_list-self, is_same_list-true, is_degenerate-under, length-numbers_from, less-apart, less-next, less-no, less-one, less-self, less-two, less-up, less-yes, numbers_from-append, numbers_from-distinct, numbers_from-least, occurs-01, occurs-again, occurs-apart, occurs-append, occurs-before, occurs-cons, occurs-head, occurs-in, occurs-later, occurs-mid, occurs-more, occurs-none, occurs-other, occurs-range, occurs-self, occurs-swap, occurs-tail, occurs-zero, occurs_once, one_if, range-in, range-out, unless_empty-nothing, unless_empty-scale, unless_empty-signed, unless_empty-times, unless_zero-signed, unless_zero-sum, unless_zero-zero}
pub use Rattle.signed_sum.proofs.InversionLemmas.{Apart, apart-above, apart-append, apart-below, before-first, pairs-among, pairs-later}
pub use Rattle.signed_sum.proofs.SumLemmas.{All-kept_terms, fun_ext, is_zero-true, restricted-gone, restricted-there, total-append, total-map, total-signed, total-sum, total-zero, value_at-append, value_at-kept_terms, value_at-nonzero_terms, value_at-nothing, value_at-sub, value_at-sum, value_at-unit_terms, weight_of-append, weighted_sum-cons, weighted_sum-map, weighted_sum-nil, without_one-mul, without_one-scale, without_one-sum, without_one-zero}
pub use Rattle.signed_sum.proofs.LawProofs.{without_one_terms, without_one-without_one}
pub use Rattle.signed_sum.proofs.TurnLemmas.{at_turn, boundary-difference, boundary-powers, norm_turn, turn_norm}
pub use Rattle.signed_sum.proofs.WordLemmas.{at_turned, at_turned-end, bound-append, bound-false, bound-true, bound-turn, bound-twice, degree-append, length-letters, letters-mask, mask-below, mask-letters, signed-times, times-signed, turn-end, turned-round, turns-through, two-even, whole-word}
pub use Rattle.signed_sum.proofs.MaskLemmas.{abs-signed, boundary_degree, boundary_turn, boundary_twice, boundary_valid, boundary_weight, degree_bound, exact_words, no_boundary, turn_degree, turn_sign, turn_valid, turned_round, value_at-masks}
pub use Rattle.signed_sum.proofs.PairLemmas.{both-true, pair_boundary-all, pair_boundary-degree, pair_boundary-none, pair_boundary-turn, pair_boundary-twice, pair_boundary-weight, pair_turn-sign, pair_turned-round, paired_before-weight, paired_behind-weight, sums-same, true-both, value_at-before, value_at-behind, value_at-pair}
