use Rattle.row_reduce.proofs.StoredLemmas.{Taking}
use Rattle.row_reduce.proofs.walking.take_pairs.Given as goal

abbrev pub invariant-loop-at : goal.invariant-loop-at
invariant-loop-at g l = Taking g.row.P l.initial.sum l.sum l.rest.items l.at
