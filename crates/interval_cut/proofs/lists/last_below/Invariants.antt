use Rattle.std.proofs.Common.{◌≤◌, length}
use Rattle.interval_cut.specs.Names.{IsFullFrom}
use Rattle.interval_cut.proofs.lists.last_below.Given as goal

abbrev pub invariant-loop-i : goal.invariant-loop-i
invariant-loop-i l = (l.i ≤ length l.list) × IsFullFrom l.top l.list l.i

abbrev pub decreases-loop-i : goal.decreases-loop-i
decreases-loop-i l = l.i
