use Rattle.std.proofs.Common.{◌≡◌, ◌++◌, take}
use Rattle.row_reduce.proofs.space.copy_onto.Given as goal

abbrev pub invariant-loop-row : goal.invariant-loop-row
invariant-loop-row g l = l.list.items ≡ l.initial.list.items ++ take l.row-index l.rows
