use Rattle.std.proofs.Common.{◌-◌, ◌++◌}
use Rattle.simplex_set.proofs.InPieces.{IsBetween}
use Rattle.simplex_set.proofs.flat_lists.FlatLists.place_of.Given as goal

abbrev pub invariant-loop-low : goal.invariant-loop-low
invariant-loop-low l = IsBetween l.self (l.first ++ l.rest) l.low l.high

abbrev pub decreases-loop-low : goal.decreases-loop-low
decreases-loop-low l = l.high - l.low
