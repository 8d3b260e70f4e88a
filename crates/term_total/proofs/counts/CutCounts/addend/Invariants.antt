use Rattle.std.proofs.Common.{drop}
use Rattle.linear_law.specs.Names.{sum_over}
use Rattle.term_total.{specs.Names.operation_number, proofs.ChargeLemmas.IsSummed}
use Rattle.term_total.proofs.counts.CutCounts.addend.Given as goal

abbrev pub invariant-loop-operation : goal.invariant-loop-operation
invariant-loop-operation g l = IsSummed (sum_over (operation_number g.row.P) l.addend.operations) (sum_over (operation_number g.row.P) (drop l.operation-index l.operation-items)) l.sum
