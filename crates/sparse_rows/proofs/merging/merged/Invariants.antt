use Rattle.std.proofs.Common.{◌+◌, ◌-◌, length}
use Rattle.sparse_rows.proofs.MergeLemmas.{IsMerged}
use Rattle.sparse_rows.proofs.merging.merged.Given as goal

abbrev pub invariant-loop-i : goal.invariant-loop-i
invariant-loop-i g l = IsMerged g.row.P l.by l.left l.right l.out.items l.i l.j

abbrev pub decreases-loop-i : goal.decreases-loop-i
decreases-loop-i g l = (length l.left - l.i) + (length l.right - l.j)
