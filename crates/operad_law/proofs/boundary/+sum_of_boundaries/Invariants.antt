use Rattle.std.proofs.Common.{length}
use Rattle.operad_law.proofs.boundary.+sum_of_boundaries.Given as goal

abbrev pub decreases-sum_of_boundaries : goal.decreases-sum_of_boundaries
decreases-sum_of_boundaries g l = length l.terms.now
