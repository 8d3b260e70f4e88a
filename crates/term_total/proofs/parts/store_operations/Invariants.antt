use Rattle.std.proofs.Common.{take}
use Rattle.linear_law.specs.Names.{Each}
use Rattle.term_total.specs.Names.{IsReady, IsThere, Keeps}
use Rattle.term_total.proofs.parts.store_operations.Given as goal

abbrev pub invariant-loop-operation : goal.invariant-loop-operation
invariant-loop-operation g l = Each (IsReady g.row.P (IsThere l.table)) (take l.operation-index l.operations) × Keeps l.fn.table l.table
