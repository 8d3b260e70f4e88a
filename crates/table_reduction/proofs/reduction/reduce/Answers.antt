use Rattle.std.proofs.Common.{subst}
use Rattle.operad_law.specs.FormalSums.{IsSameSum}
use Rattle.table_reduction.proofs.ReductionLemmas.{reduces-action, reduces-boundary}
use Rattle.table_reduction_law.specs.Names.{table_reduction}
use Rattle.table_reduction.proofs.reduction.reduce.Goals as goal

pub returns-in-Ok-clause-boundary : goal.returns-in-Ok-clause-boundary
returns-in-Ok-clause-boundary c =
    reduces-boundary c.args.tuple.now c.in-Ok.sum c.as_slice-entries.ensures.generator (subst (λ w. IsSameSum c.in-Ok.sum (table_reduction w)) c.as_slice-entries.ensures.same c.in-Ok.ensures.sum)

pub returns-in-Ok-clause-action : goal.returns-in-Ok-clause-action
returns-in-Ok-clause-action c =
    reduces-action c.args.tuple.now c.in-Ok.sum c.as_slice-entries.ensures.generator (subst (λ w. IsSameSum c.in-Ok.sum (table_reduction w)) c.as_slice-entries.ensures.same c.in-Ok.ensures.sum)
