use Rattle.std.proofs.Common.{ℕ, take}
use Rattle.cycle_table.proofs.Below.{Congruent, value_in, combined}
use Rattle.cycle_table.proofs.combining.combine.Given as goal

abbrev pub invariant-loop-entry : goal.invariant-loop-entry
invariant-loop-entry g l = (y : ℕ) → Congruent g.row.P (value_in l.pairs.items y) (combined l.rows (value_in (take l.entry-index l.coefficients)) y)
