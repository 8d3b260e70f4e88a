use Rattle.std.proofs.Common.{◌≡◌, drop}
use Rattle.signed_sum.specs.Names.{count_before, stands_before}
use Rattle.operad_law.{specs.Parity.is_odd, proofs.WordLemmas.differ}
use Rattle.operad_law.proofs.odd_word.is_odd_count.Given as goal

abbrev pub invariant-loop-y : goal.invariant-loop-y
invariant-loop-y l =
    differ l.odd (is_odd (count_before (stands_before l.word) l.x (drop l.y-index l.others))) ≡ is_odd (count_before (stands_before l.word) l.x l.others)
