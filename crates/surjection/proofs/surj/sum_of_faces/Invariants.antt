use Rattle.std.proofs.Common.{◌≡◌, length}
use Rattle.surjection.proofs.WalkLemmas.{IsWalk}
use Rattle.surjection.proofs.surj.sum_of_faces.Given as goal

abbrev pub invariant-loop-i : goal.invariant-loop-i
invariant-loop-i l = IsWalk l.values l.i l.sum l.sign l.before × (length l.before ≡ 33)
