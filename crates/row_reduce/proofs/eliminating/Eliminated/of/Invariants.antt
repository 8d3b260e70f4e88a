use Rattle.std.proofs.Common.{◌-◌, length}
use Rattle.row_reduce.specs.Names.{IsEliminated}
use Rattle.row_reduce.proofs.eliminating.Eliminated.of.Given as goal

abbrev pub invariant-loop-done : goal.invariant-loop-done
invariant-loop-done g l = IsEliminated g.row.P l.rows (length l.rows - l.done) l.found.echelon.items l.found.relations.items
