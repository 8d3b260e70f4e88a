use Rattle.may_steenrod.proofs.BackLemmas.{IsBack}
use Rattle.may_steenrod.proofs.on.back_place.Given as goal

abbrev pub invariant-loop-count : goal.invariant-loop-count
invariant-loop-count l = IsBack l.index l.n l.place l.count l.back
