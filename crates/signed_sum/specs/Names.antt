-- The definitions that others cite, passed on from one place. Declares nothing.
pub use Rattle.signed_sum.specs.Signs.{signed}
pub use Rattle.signed_sum.specs.Lists.{IsDistinct, begins_with, if_zero, is_degenerate, is_same_list, less, numbers_from, occurs, unless_empty, unless_zero}
pub use Rattle.signed_sum.specs.Sums.{IsNormalized, alternating_terms, alternating_terms_from, is_zero, kept_terms, nonzero_terms, normalized, restricted, total, unit_terms, value_at, weight_of, without_each, without_one}
pub use Rattle.signed_sum.specs.Inversions.{count_before, inversion_count, rearrangement_sign, stands_before}
pub use Rattle.signed_sum.specs.Turns.{IsSign, after_turns, difference, power_sum}
pub use Rattle.signed_sum.specs.Permutations.{cycle, cycle_power, entry_at, turned}
pub use Rattle.signed_sum.specs.Words.{IsWord, behind_letter, last_letter, letter_count, letter_degree, letters, letters_before_last, mask_boundary, mask_degree, mask_of, mask_turn, parity, word_boundary, word_degree, word_turn}
pub use Rattle.signed_sum.specs.Pairs.{pair_boundary, pair_degree, pair_turn, paired_before, paired_behind}
pub use Rattle.signed_sum.specs.Laws.{RingLaws, SignLaws, WithoutOneLaw, WithoutTwoLaw}
