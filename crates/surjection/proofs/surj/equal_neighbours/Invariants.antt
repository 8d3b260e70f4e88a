use Rattle.std.proofs.Common.{◌≡◌, ◌-◌, ◌+◌, ◌≤◌, drop, length}
use Rattle.surjection.specs.Names.{equal_neighbours_from}
use Rattle.surjection.proofs.surj.equal_neighbours.Given as goal

abbrev pub invariant-loop-i : goal.invariant-loop-i
invariant-loop-i l = (equal_neighbours_from (l.i + 1) (drop l.i l.values) ≡ equal_neighbours_from 1 l.values) × (l.i ≤ length l.values)

abbrev pub decreases-loop-i : goal.decreases-loop-i
decreases-loop-i l = length l.values - l.i
