use Rattle.std.proofs.Common.{◌≡◌, ◌+◌, ◌-◌, ◌*◌, ◌^◌}
use Rattle.table_reduction_law.specs.Names.{binomial}
use Rattle.may_elements.specs.Counted.{cut_off}
use Rattle.may_elements.proofs.elements.MayTable.candidates.Given as goal

abbrev pub invariant-loop-pair : goal.invariant-loop-pair
invariant-loop-pair g l = l.count ≡ cut_off (g.row.P ^ l._pair * binomial (g.row.P + l.d - 1) l.d)
