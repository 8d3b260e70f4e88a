use Rattle.std.proofs.Common.{arith}
use Rattle.complex_index.proofs.FacePlaces.{places_so_far}
use Rattle.complex_index.proofs.incidence.face_places.Goals as goal

pub loop-y-preserved : goal.loop-y-preserved
loop-y-preserved c =
    places_so_far c.args.size c.loop-y.y c.args.lower.now c.args.upper.now c.get.result.now c.loop-y.places.items c.put_places.new.places.items
    (omega (arith, c.len-y-end.ensures)) c.get.ensures c.requires.sized c.in_ok-put_places.ensures c.loop-y.invariant
