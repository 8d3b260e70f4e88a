use Rattle.std.proofs.Common.{◌≡◌, sum_by, take}
use Rattle.certificate_walk.specs.Names.{operation_lines}
use Rattle.certificate_walk.proofs.count.operations_lines.Given as goal

abbrev pub invariant-loop-operation : goal.invariant-loop-operation
invariant-loop-operation l = l.lines ≡ sum_by operation_lines (take l.operation-index l.operations)
