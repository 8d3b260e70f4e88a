use Rattle.std.proofs.Common.{◌≡◌, ◌+◌, ◌*◌, ◌≤◌, drop}
use Rattle.signed_sum.specs.Names.{inversion_count, less}
use Rattle.interval_cut.proofs.words.count_inversions.Given as goal

abbrev pub invariant-loop-i : goal.invariant-loop-i
invariant-loop-i l = (l.count + inversion_count less (drop l.i l.word) ≡ inversion_count less l.word) × (l.count ≤ 510 * l.i)
