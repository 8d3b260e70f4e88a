use Rattle.std.proofs.Common.{◌≡◌, take}
use Rattle.row_reduce.proofs.entries.Entries.to_row.Given as goal

abbrev pub invariant-loop-i : goal.invariant-loop-i
invariant-loop-i g l = l.pairs.items ≡ take l.i l.self
