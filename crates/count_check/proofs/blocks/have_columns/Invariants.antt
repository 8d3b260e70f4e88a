use Rattle.std.proofs.Common.{◌≤◌, get_or, length, take}
use Rattle.linear_law.specs.Names.{Each}
use Rattle.report.specs.declared.columns.OperationPart.{OperationPart}
use Rattle.count_check.proofs.blocks.have_columns.Given as goal

abbrev pub invariant-loop-block : goal.invariant-loop-block
invariant-loop-block l = Each (λ (x : OperationPart). get_or l.ranks x.from 0 ≤ length x.columns) (take l.block-index l.listed)
