use Rattle.std.proofs.Common.{◌≡◌, ◌+◌, ◌≤◌, drop}
use Rattle.surjection_law.specs.Names.{caesura_count}
use Rattle.interval_cut.proofs.words.count_caesuras.Given as goal

abbrev pub invariant-loop-i : goal.invariant-loop-i
invariant-loop-i l = (l.count + caesura_count (drop l.i l.values) ≡ caesura_count l.values) × (l.count ≤ l.i)
