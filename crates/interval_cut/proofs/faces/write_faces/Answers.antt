use Rattle.std.proofs.Common.{length, [], ◌∷◌, ◌++◌, arith, length-set}
use Rattle.interval_cut.proofs.FaceLemmas.{next_room, table_step}
use Rattle.interval_cut.proofs.faces.write_faces.Goals as goal

pub write_face-next-requires-clause-room : goal.write_face-next-requires-clause-room
write_face-next-requires-clause-room c =
    next_room c.loop-k.k c.args.values.now c.args.inner.now c.args.top c.loop-k.next (length c.loop-k.places) c.requires.cut c.loop-k.invariant.here
    (omega (arith, c.requires.room, c.loop-k.auto.places))

pub loop-k-preserved : goal.loop-k-preserved
loop-k-preserved c =
    table_step c.args.values.now (c.args.inner.now ++ (c.args.top ∷ [])) c.loop-k.k c.loop-k.next c.loop-k.places c.loop-k.starts c.write_face-next.new.places c.write_face-next.result
    c.loop-k.invariant (omega (arith, c.loop-k-test.true, c.requires.starts, c.loop-k.auto.starts, length-set c.args.starts.now 0 0)) c.write_face-next.ensures.next c.write_face-next.ensures.written
