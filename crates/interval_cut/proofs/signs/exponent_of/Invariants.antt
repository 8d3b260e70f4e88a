use Rattle.std.proofs.Common.{[], ◌∷◌, ◌++◌}
use Rattle.interval_cut.specs.Names.{IsPassed}
use Rattle.interval_cut.proofs.signs.exponent_of.Given as goal

abbrev pub invariant-loop-i : goal.invariant-loop-i
invariant-loop-i l = IsPassed l.values (l.inner ++ (l.top ∷ [])) l.i l.lengths l.exponent

abbrev pub decreases-loop-i : goal.decreases-loop-i
decreases-loop-i l = l.i
