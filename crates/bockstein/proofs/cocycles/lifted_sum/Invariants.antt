use Rattle.std.proofs.Common.{◌≡◌, ◌-◌, ◌*◌, drop, length, map, pos, neg_ℤ, ◌≤ℤ◌}
use Rattle.bockstein.specs.Places.{IsSumFrom}
use Rattle.bockstein.proofs.cocycles.lifted_sum.Given as goal

abbrev pub invariant-loop-k : goal.invariant-loop-k
invariant-loop-k g l = IsSumFrom g.row.P l.row l.places l.k l.sum
