use Rattle.std.proofs.Common.{◌≡◌, ◌≤◌, ◌+◌, ◌-◌}
use Rattle.signed_sum.specs.Names.{letter_count, letters, word_degree}
use Rattle.operad_law.proofs.word.count_letters.Given as goal

abbrev pub invariant-loop-place : goal.invariant-loop-place
invariant-loop-place l = record {
  small : l.count ≤ l._place;
  counted : l.count + word_degree (letter_count l.wanted) (letters (l.len - l._place) l.rest) ≡ word_degree (letter_count l.wanted) (letters l.len l.mask);
}
