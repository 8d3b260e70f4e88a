use Rattle.std.proofs.Common.{◌≡◌, ◌-◌, ◌≤◌, drop, length}
use Rattle.barratt_eccles.specs.Refusals.{equal_neighbours_from}
use Rattle.barratt_eccles.proofs.tuple.equal_neighbours.Given as goal

abbrev pub invariant-loop-i : goal.invariant-loop-i
invariant-loop-i l = (equal_neighbours_from l.i (drop l.i l.entries) ≡ equal_neighbours_from 0 l.entries) × (l.i ≤ length l.entries)

abbrev pub decreases-loop-i : goal.decreases-loop-i
decreases-loop-i l = length l.entries - l.i
