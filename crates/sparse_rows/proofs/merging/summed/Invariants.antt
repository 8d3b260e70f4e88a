use Rattle.sparse_rows.proofs.SortLemmas.{IsSummed}
use Rattle.sparse_rows.proofs.merging.summed.Given as goal

abbrev pub invariant-loop-pair : goal.invariant-loop-pair
invariant-loop-pair g l = IsSummed g.row.P l.pairs l.out.items l.pair-index l.position l.sum
