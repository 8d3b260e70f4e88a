use Rattle.std.proofs.Common.{◌+◌, ◌-◌, ◌<◌, ℕ, List, [], ◌∷◌, ◌++◌, take, length, arith, ap, ◌∙◌, length-append}
use Rattle.interval_cut.proofs.{FaceLemmas.{face_room, face_skip, face_write, part_moved}, faces.write_face.Goals.{then-value-k, else-value-k}}
use Rattle.interval_cut.proofs.faces.write_face.Goals as goal

pub write_numbers-requires-clause-room : goal.write_numbers-requires-clause-room
write_numbers-requires-clause-room c =
    let p : List ℕ = c.args.inner.now ++ (c.args.top ∷ []) in
    let inside : c.loop-i.i < length p = omega (arith, c.loop-i-test.true, c.requires.long, length-append c.args.inner.now (c.args.top ∷ [])) in
    face_room c.args.k c.args.values.now p c.args.at c.loop-i.i c.loop-i.start c.loop-i.next (take c.args.at c.args.places.now) (take c.loop-i.next c.loop-i.places) c.loop-i.invariant
    c.loop-i-test.true inside c.if-value-k.true (c.end_of-end.result - c.loop-i.start + 1) (length c.loop-i.places) (ap (λ x. x - c.loop-i.start + 1) c.end_of-end.ensures)
    (omega (arith, c.requires.room, c.loop-i.auto.places))

pub loop-i-preserved : goal.loop-i-preserved
loop-i-preserved c =
    let p : List ℕ = c.args.inner.now ++ (c.args.top ∷ []) in
    let old : List ℕ = take c.args.at c.args.places.now in
    let done : List ℕ = take c.loop-i.next c.loop-i.places in
    let inside : c.loop-i.i < length p = omega (arith, c.loop-i-test.true, c.requires.long, length-append c.args.inner.now (c.args.top ∷ [])) in
    elim c.if-value-k.branch [
      | then-value-k w ↦
          let count : ℕ = c.end_of-end.result - c.loop-i.start + 1 in
          part_moved c.args.k c.args.values.now p c.args.at (c.loop-i.i + 1) old _ c.if-value-k.start (c.loop-i.next + count) c.if-value-k.next w.write_numbers.new.places c.if-value-k.places
          (w.start-is ∙ c.end_of-end.ensures) w.next-is w.places-is
          (face_write c.args.k c.args.values.now p c.args.at c.loop-i.i c.loop-i.start c.loop-i.next old done c.loop-i.invariant c.loop-i-test.true inside w.if-value-k.true count
          (take (c.loop-i.next + count) w.write_numbers.new.places) (ap (λ x. x - c.loop-i.start + 1) c.end_of-end.ensures) w.write_numbers.ensures)
      | else-value-k w ↦
          part_moved c.args.k c.args.values.now p c.args.at (c.loop-i.i + 1) old _ c.if-value-k.start c.loop-i.next c.if-value-k.next c.loop-i.places c.if-value-k.places
          (w.start-is ∙ c.end_of-end.ensures) w.next-is w.places-is
          (face_skip c.args.k c.args.values.now p c.args.at c.loop-i.i c.loop-i.start c.loop-i.next old done c.loop-i.invariant c.loop-i-test.true inside w.if-value-k.false)
    ]
