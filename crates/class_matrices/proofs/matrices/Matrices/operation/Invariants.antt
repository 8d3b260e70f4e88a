use Rattle.std.proofs.Common.{◌≢◌, take}
use Rattle.linear_law.specs.Names.{Each}
use Rattle.class_matrices.proofs.matrices.Matrices.operation.Given as goal

abbrev pub invariant-loop-matrix : goal.invariant-loop-matrix
invariant-loop-matrix g l = Each (λ m. m.block ≢ l.block) (take l.matrix-index l.matrix-items)
