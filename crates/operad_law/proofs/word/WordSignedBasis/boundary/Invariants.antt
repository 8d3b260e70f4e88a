use Rattle.operad_law.proofs.WordSteps.{SumsTo}
use Rattle.operad_law.proofs.word.WordSignedBasis.boundary.Given as goal

abbrev pub invariant-loop-place : goal.invariant-loop-place
invariant-loop-place g l = SumsTo g.row.P l.place l.self l.sum
