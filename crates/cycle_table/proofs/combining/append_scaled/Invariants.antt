use Rattle.std.proofs.Common.{◌+◌, ◌*◌, ℕ, take}
use Rattle.cycle_table.proofs.Below.{Congruent, value_in}
use Rattle.cycle_table.proofs.combining.append_scaled.Given as goal

abbrev pub invariant-loop-pair : goal.invariant-loop-pair
invariant-loop-pair g l =
    (y : ℕ) → Congruent g.row.P (value_in l.pairs.items y) (value_in l.initial.pairs.items y + l.by * value_in (take l.pair-index l.row) y)
