use Rattle.column_check.proofs.SumLemmas.{IsAddedUpTo}
use Rattle.column_check.proofs.sums.add_classes.Given as goal

abbrev pub invariant-loop-i : goal.invariant-loop-i
invariant-loop-i g l = IsAddedUpTo g.row.P l.values l.classes l.i l.fn.sum l.sum
