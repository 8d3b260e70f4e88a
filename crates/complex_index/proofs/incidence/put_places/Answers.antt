use Rattle.std.proofs.Common.{arith, List, ℕ, []}
use Rattle.linear_law.{specs.Names.Among, proofs.Names.each_get_or}
use Rattle.simplicial_law.specs.Names.{faces}
use Rattle.simplex_set.proofs.AddingFaces.{length_faces}
use Rattle.complex_index.proofs.FacePlaces.{adding_all, adding_more, adding_none}
use Rattle.complex_index.proofs.incidence.put_places.Goals as goal

pub loop-at-init : goal.loop-at-init
loop-at-init c = adding_none c.args.lower.now c.args.simplex.now c.args.places.now.items

pub place_of_face-requires-clause-present : goal.place_of_face-requires-clause-present
place_of_face-requires-clause-present c = each_get_or (λ (t : List ℕ). Among t c.args.lower.now) (faces c.args.simplex.now) c.loop-at.at [] (omega (arith, length_faces c.args.simplex.now)) c.requires.present

pub loop-at-preserved : goal.loop-at-preserved
loop-at-preserved c =
    adding_more c.args.lower.now c.args.simplex.now c.loop-at.at c.place_of_face.result c.args.places.now.items c.loop-at.places.items c.push.new.self.items
    (omega arith) c.in_ok-push.ensures.items c.place_of_face.ensures.below c.place_of_face.ensures.same c.loop-at.invariant

pub returns : goal.returns
returns c = adding_all c.args.lower.now c.args.simplex.now c.loop-at.at c.args.places.now.items c.loop-at.places.items c.loop-at-test.false c.loop-at.invariant
