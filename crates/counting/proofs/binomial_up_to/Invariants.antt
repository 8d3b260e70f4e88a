use Rattle.std.proofs.Common.{◌≡◌, ◌+◌, ◌<◌, ◌^◌}
use Rattle.table_reduction_law.specs.Names.{binomial}
use Rattle.counting.proofs.binomial_up_to.Given as goal

abbrev pub invariant-loop-i : goal.invariant-loop-i
invariant-loop-i l = (l.count ≡ binomial (l.rest + l.i) l.i) × (l.count < 2 ^ 64)
