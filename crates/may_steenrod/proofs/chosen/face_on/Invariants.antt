use Rattle.std.proofs.Common.{◌-◌, length}
use Rattle.may_steenrod.specs.Chosen.{IsChosen}
use Rattle.may_steenrod.proofs.chosen.face_on.Given as goal

abbrev pub invariant-loop-count : goal.invariant-loop-count
invariant-loop-count l = IsChosen l.index l.simplex l.places (length l.simplex - l.count) l.face
