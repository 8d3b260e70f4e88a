use Rattle.std.proofs.Common.{◌≡◌, ◌*◌, length, take}
use Rattle.simplex_set.specs.Pieces.{pieces}
use Rattle.complex_index.specs.Names.{ArePlacesOf}
use Rattle.complex_index.proofs.incidence.face_places.Given as goal

abbrev pub invariant-loop-y : goal.invariant-loop-y
invariant-loop-y l = (length l.places.items ≡ l.y * l.size) × ArePlacesOf l.lower (take l.y l.upper) (pieces l.size l.y l.places.items)
