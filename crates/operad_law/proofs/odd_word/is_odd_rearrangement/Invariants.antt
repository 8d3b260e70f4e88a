use Rattle.std.proofs.Common.{◌≡◌, drop}
use Rattle.signed_sum.specs.Names.{inversion_count, stands_before}
use Rattle.operad_law.{specs.Parity.is_odd, proofs.WordLemmas.differ}
use Rattle.operad_law.proofs.odd_word.is_odd_rearrangement.Given as goal

abbrev pub invariant-loop-i : goal.invariant-loop-i
invariant-loop-i l =
    differ l.odd (is_odd (inversion_count (stands_before l.to) (drop l.i l.from))) ≡ is_odd (inversion_count (stands_before l.to) l.from)
