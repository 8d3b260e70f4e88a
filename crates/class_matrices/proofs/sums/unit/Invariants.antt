use Rattle.std.proofs.Common.{◌≡◌}
use Rattle.class_matrices.specs.Names.{unit_coordinates}
use Rattle.class_matrices.proofs.sums.unit.Given as goal

abbrev pub invariant-loop-k : goal.invariant-loop-k
invariant-loop-k g l = l.values.items ≡ unit_coordinates l.k l.place
