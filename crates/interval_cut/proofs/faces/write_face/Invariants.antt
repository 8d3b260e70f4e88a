use Rattle.std.proofs.Common.{[], ◌∷◌, ◌++◌, take}
use Rattle.interval_cut.specs.Names.{IsPartOfFace}
use Rattle.interval_cut.proofs.faces.write_face.Given as goal

abbrev pub invariant-loop-i : goal.invariant-loop-i
invariant-loop-i l = IsPartOfFace l.k l.values (l.inner ++ (l.top ∷ [])) l.at l.i l.start l.next (take l.at l.initial.places) (take l.next l.places)
