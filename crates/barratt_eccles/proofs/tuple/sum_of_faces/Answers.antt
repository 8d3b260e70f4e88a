use Rattle.std.proofs.{Common.{arith, ◌≡◌, ◌≤◌, w64, to_z, of_z, ℤ, pos, neg_ℤ, ◌-ℤ◌, nat_abs}, lemmas.Int.ints}
use Rattle.barratt_eccles.proofs.FaceLemmas.{IsWalk-end, IsWalk-next, IsWalk-small, IsWalk-start, face-generator}
use Rattle.barratt_eccles.proofs.tuple.sum_of_faces.Goals as goal

turned_sign : (s : ℤ) → nat_abs s ≤ 1 → to_z w64 (of_z w64 (pos 0 -ℤ s)) ≡ neg_ℤ s
turned_sign s h = omega (arith, ints)

pub loop-place-init : goal.loop-place-init
loop-place-init c = rw c.new-sum.ensures (IsWalk-start c.args.entries.now)

pub add_face-requires-clause-face : goal.add_face-requires-clause-face
add_face-requires-clause-face c = face-generator c.args.entries.now c.loop-place.place c.requires c.loop-place-test.true

pub add_face-requires-clause-small : goal.add_face-requires-clause-small
add_face-requires-clause-small c = IsWalk-small c.args.entries.now c.loop-place.place c.loop-place.sum _ c.loop-place.invariant

pub overflow_sub-sign : goal.overflow_sub-sign
overflow_sub-sign c = let small = IsWalk-small c.args.entries.now c.loop-place.place c.loop-place.sum _ c.loop-place.invariant in omega (arith, ints, small)

pub loop-place-preserved : goal.loop-place-preserved
loop-place-preserved c =
    let small = IsWalk-small c.args.entries.now c.loop-place.place c.loop-place.sum _ c.loop-place.invariant in
    IsWalk-next c.args.entries.now c.loop-place.place c.loop-place.sum _ _ _ c.loop-place-test.true (turned_sign _ small) c.loop-place.invariant c.in_ok-add_face.ensures

pub returns : goal.returns
returns c = IsWalk-end c.args.entries.now c.loop-place.place c.loop-place.sum _ c.loop-place-test.false c.loop-place.invariant
