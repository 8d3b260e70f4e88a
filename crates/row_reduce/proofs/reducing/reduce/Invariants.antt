use Rattle.row_reduce.proofs.SumLemmas.{Reducing}
use Rattle.row_reduce.proofs.reducing.reduce.Given as goal

abbrev pub invariant-loop-at : goal.invariant-loop-at
invariant-loop-at g l = Reducing g.row.P l.stored l.initial.sum l.sum l.history.items l.at
