use Rattle.std.proofs.Common.{length, drop, ◌≤◌, ◌+◌, ◌-◌}
use Rattle.operad_law.proofs.Merging.{IsMerging}
use Rattle.operad_law.proofs.scaled.merged.Given as goal

abbrev pub invariant-loop-i : goal.invariant-loop-i
invariant-loop-i g l = record {
  within : l.i ≤ length l.first;
  within_other : l.j ≤ length l.other;
  merging : IsMerging g.B.Ord.cmp l.first l.other l.by l.total.items (drop l.i l.first) (drop l.j l.other);
}

abbrev pub decreases-loop-i : goal.decreases-loop-i
decreases-loop-i g l = (length l.first - l.i) + (length l.other - l.j)
