use Rattle.std.proofs.Common.{◌≡◌, [], length, take, drop}
use Rattle.operad_law.specs.Refusals.{first_place_from, is_misplaced}
use Rattle.operad_law.proofs.perm.fault_of.Given as goal

abbrev pub invariant-loop-i : goal.invariant-loop-i
invariant-loop-i l =
    first_place_from (is_misplaced (length l.values)) (take l.i l.values) (drop l.i l.values) ≡ first_place_from (is_misplaced (length l.values)) [] l.values
