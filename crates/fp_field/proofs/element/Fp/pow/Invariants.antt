use Rattle.std.proofs.Common.{◌≡◌, ◌*◌, ◌%◌, ◌^◌}
use Rattle.fp_field.proofs.element.Fp.pow.Given as goal

abbrev pub invariant-loop-left : goal.invariant-loop-left
invariant-loop-left g l = (l.power % g.row.P ≡ l.power) × ((l.power * l.base ^ l.left) % g.row.P ≡ (l.fn.self ^ l.fn.e) % g.row.P)

abbrev pub decreases-loop-left : goal.decreases-loop-left
decreases-loop-left g l = l.left
