use Rattle.std.proofs.Common.{ℕ, ◌+◌, ◌*◌, get_or, take}
use Rattle.row_reduce.{proofs.Below.{Congruent, value_in}, specs.Names.run_from}
use Rattle.row_reduce.proofs.entries.add_once.Given as goal

abbrev pub invariant-loop-i : goal.invariant-loop-i
invariant-loop-i g l =
    (k : ℕ) → Congruent g.row.P (get_or l.sum k 0) (get_or l.initial.sum k 0 + 1 * value_in (take l.i (run_from l.first l.run)) k)
