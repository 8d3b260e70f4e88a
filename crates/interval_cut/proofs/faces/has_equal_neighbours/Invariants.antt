use Rattle.std.proofs.Common.{◌≡◌, ◌≤◌, ◌-◌, drop, length}
use Rattle.signed_sum.specs.Names.{is_degenerate}
use Rattle.interval_cut.proofs.faces.has_equal_neighbours.Given as goal

abbrev pub invariant-loop-i : goal.invariant-loop-i
invariant-loop-i l = (l.i ≤ length l.face) × (is_degenerate (drop l.i l.face) ≡ is_degenerate l.face)

abbrev pub decreases-loop-i : goal.decreases-loop-i
decreases-loop-i l = length l.face - l.i
