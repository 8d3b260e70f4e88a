use Rattle.std.proofs.Common.{ℕ, ◌+◌, ◌*◌, get_or, take}
use Rattle.row_reduce.proofs.Below.{Congruent, value_in}
use Rattle.row_reduce.proofs.reducing.add_row.Given as goal

abbrev pub invariant-loop-entry : goal.invariant-loop-entry
invariant-loop-entry g l =
    (k : ℕ) → Congruent g.row.P (get_or l.sum k 0) (get_or l.initial.sum k 0 + l.by * value_in (take l.entry-index l.row) k)
