use Rattle.std.proofs.Common.{◌≡◌}
use Rattle.linear_law.specs.Names.{copies}
use Rattle.class_matrices.proofs.sums.zeros.Given as goal

abbrev pub invariant-loop : goal.invariant-loop
invariant-loop g l = l.values.items ≡ copies l.counter 0
