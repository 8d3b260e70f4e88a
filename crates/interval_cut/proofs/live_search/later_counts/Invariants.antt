use Rattle.std.proofs.Common.{◌≡◌, ◌++◌, drop, length, take}
use Rattle.interval_cut.specs.Names.{later_times}
use Rattle.interval_cut.proofs.live_search.later_counts.Given as goal

abbrev pub invariant-loop-i : goal.invariant-loop-i
invariant-loop-i l = (take l.i l.later ++ later_times (drop l.i l.values) ≡ later_times l.values) × (length l.later ≡ 255)
