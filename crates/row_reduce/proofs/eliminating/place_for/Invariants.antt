use Rattle.std.proofs.Common.{ℕ, ◌<◌, get_or}
use Rattle.row_reduce.specs.Names.{EchelonRow}
use Rattle.row_reduce.proofs.eliminating.place_for.Given as goal

abbrev pub invariant-loop-at : goal.invariant-loop-at
invariant-loop-at g l = (i : ℕ) (d : EchelonRow g.row.P) → i < l.at → (get_or l.echelon i d).pivot < l.pivot
