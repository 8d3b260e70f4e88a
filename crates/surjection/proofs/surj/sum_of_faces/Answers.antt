use Rattle.std.proofs.{Common.{arith, sym, ap, ◌∙◌, ◌≡◌, ◌≤◌, ◌+◌, ◌<◌, length, w64, to_z, of_z, refl, get_or, suc, ℤ, pos, neg_ℤ, ◌-ℤ◌, nat_abs, length-set}, lemmas.Int.ints}
use Rattle.signed_sum.specs.Names.{is_zero}
use Rattle.surjection.proofs.{WalkLemmas.{IsWalk-again, IsWalk-end, IsWalk-last, IsWalk-start, face_again, face_is, face_last, kept_signs, rest_comes, rest_gone, value_below}, surj.sum_of_faces.Goals.{then-stands_in+in_ok-add_face, else-stands_in+in_ok-add_face-2}}
use Rattle.surjection.proofs.surj.sum_of_faces.Goals as goal

negated : (b : ℤ) → nat_abs b ≤ 1 → to_z w64 (of_z w64 (pos 0 -ℤ to_z w64 (of_z w64 b))) ≡ neg_ℤ b
negated b h = omega (arith, ints)

turned_sign : (s : ℤ) → nat_abs s ≤ 1 → to_z w64 (of_z w64 (pos 0 -ℤ s)) ≡ neg_ℤ s
turned_sign s h = omega (arith, ints)

pub loop-i-init : goal.loop-i-init
loop-i-init c = rw c.new-sum.ensures (IsWalk-start c.args.values.now 33, refl)

pub bounds-before-value : goal.bounds-before-value
bounds-before-value c = value_below c.args.values.now c.loop-i.i c.requires (omega arith)

pub bounds-before-value-else-stands_in : goal.bounds-before-value-else-stands_in
bounds-before-value-else-stands_in c = value_below c.args.values.now c.loop-i.i c.requires (omega arith)

pub add_face-requires-clause-face : goal.add_face-requires-clause-face
add_face-requires-clause-face c n plain =
    let x = get_or c.args.values.now c.loop-i.i 0 in
    face_is c.args.values.now c.loop-i.i c.requires
    (face_again c.args.values.now c.loop-i.i c.loop-i.sum _ c.loop-i.before (omega arith)
    (rest_comes c.args.values.now c.loop-i.i x c.stands_in.result c.stands_in.ensures c.if-stands_in.true) c.loop-i.invariant.0 n) plain

pub add_face-requires-else-stands_in-clause-face : goal.add_face-requires-else-stands_in-clause-face
add_face-requires-else-stands_in-clause-face c n plain =
    let x = get_or c.args.values.now c.loop-i.i 0 in
    face_is c.args.values.now c.loop-i.i c.requires
    (face_last c.args.values.now c.loop-i.i c.loop-i.sum _ c.loop-i.before (omega arith)
    (rest_gone c.args.values.now c.loop-i.i x c.stands_in.result c.stands_in.ensures c.if-stands_in.false) c.loop-i.invariant.0
    (ap is_zero (sym (negated (kept_signs c.loop-i.before x) (c.loop-i.invariant.0.kept_small x))) ∙ n)) plain

pub loop-i-preserved : goal.loop-i-preserved
loop-i-preserved c =
    let x = get_or c.args.values.now c.loop-i.i 0 in
    let e : c.loop-i.i + 1 ≡ suc c.loop-i.i = omega arith in
    let h : c.loop-i.i < length c.args.values.now = omega arith in
    let walk = c.loop-i.invariant.0 in
    let below : get_or c.args.values.now c.loop-i.i 0 < 33 = value_below c.args.values.now c.loop-i.i c.requires h in
    let room : get_or c.args.values.now c.loop-i.i 0 < length c.loop-i.before = omega arith in
    elim c.if-stands_in.branch [
      | else-stands_in+in_ok-add_face-2 w ↦
          rw (e, w.sum-is, w.sign-is, w.before-is) (
            IsWalk-last c.args.values.now c.loop-i.i c.loop-i.sum w.add_face-else-stands_in.new.sum _ c.loop-i.before h
                (rest_gone c.args.values.now c.loop-i.i x c.stands_in.result c.stands_in.ensures w.if-stands_in.false) walk
                (rw (negated (kept_signs c.loop-i.before x) (walk.kept_small x)) at w.in_ok-add_face-2.ensures),
            c.loop-i.invariant.1,
          )
      | then-stands_in+in_ok-add_face w ↦
          rw (e, w.sum-is, w.sign-is, w.before-is, turned_sign (to_z w64 c.loop-i.sign-bits) walk.small) (
            IsWalk-again c.args.values.now c.loop-i.i c.loop-i.sum w.add_face.new.sum _ c.loop-i.before h
                (rest_comes c.args.values.now c.loop-i.i x c.stands_in.result c.stands_in.ensures w.if-stands_in.true) room walk w.in_ok-add_face.ensures,
            rw length-set c.loop-i.invariant.1,
          )
    ]

pub returns : goal.returns
returns c = IsWalk-end c.args.values.now c.loop-i.i c.loop-i.sum _ c.loop-i.before (omega arith) c.loop-i.invariant.0
