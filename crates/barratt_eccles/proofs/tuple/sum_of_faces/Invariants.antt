use Rattle.barratt_eccles.proofs.FaceLemmas.{IsWalk}
use Rattle.barratt_eccles.proofs.tuple.sum_of_faces.Given as goal

abbrev pub invariant-loop-place : goal.invariant-loop-place
invariant-loop-place l = IsWalk l.entries l.place l.sum l.sign
