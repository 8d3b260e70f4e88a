use Rattle.std.proofs.Common.{ℕ, ◌+◌, ◌*◌, get_or}
use Rattle.row_reduce.{proofs.Below.{Congruent, value_in}, specs.Names.run_from}
use Rattle.row_reduce.proofs.entries.add_run.Given as goal

abbrev pub invariant-loop : goal.invariant-loop
invariant-loop g l =
    (k : ℕ) → Congruent g.row.P (get_or l.sum k 0) (get_or l.initial.sum k 0 + l.counter * value_in (run_from l.first l.run) k)
