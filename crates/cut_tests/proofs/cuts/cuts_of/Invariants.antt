use Rattle.std.proofs.Common.{◌≡◌, length}
use Rattle.cut_tests.proofs.cuts.cuts_of.Given as goal

abbrev pub invariant-cuts : goal.invariant-cuts
invariant-cuts l = length l.cuts.values ≡ l.last

abbrev pub decreases-cuts : goal.decreases-cuts
decreases-cuts l = length l.cuts.left
