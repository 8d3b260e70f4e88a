use Rattle.std.proofs.Common.{◌≡◌, length, take}
use Rattle.linear_law.specs.Names.{plus_scaled}
use Rattle.class_matrices.proofs.sums.plus_scaled.Given as goal

abbrev pub invariant-loop-x : goal.invariant-loop-x
invariant-loop-x g l = l.sum.items ≡ plus_scaled g.row.P l.by (take (length l.yielded) l.first) (take (length l.yielded) l.second)
