use Rattle.std.proofs.Common.{◌≡◌, ◌∙◌, ◌<◌, arith, length, length-set}
use Rattle.interval_cut.specs.Names.{cut_of}
use Rattle.may_steenrod.proofs.{CutLemmas.at-most-five, FaceLemmas.{Extends_trans, numbers_step}}
use Rattle.may_steenrod.proofs.face_sum.FaceSum.numbers_of.Goals as goal

pub loop-k-preserved : goal.loop-k-preserved
loop-k-preserved g c =
    let old = c.loop-k.invariant in
    let long : length c.loop-k.numbers ≡ 5 = old.4 in
    let room : c.loop-k.k < length c.loop-k.numbers = omega (arith, long, at-most-five g.row.P c.requires.prime) in (
      numbers_step c.loop-k.self.faces.items c.number_of.new.self.faces.items c.args.cuts.now.walk.values (cut_of c.args.cuts.now.walk) c.loop-k.numbers c.loop-k.k c.in_ok-numbers.field-0 old.0
          c.in_ok-numbers.ensures.grown c.in_ok-numbers.ensures.inside (c.in_ok-numbers.ensures.face ∙ c.face.ensures) room,
      Extends_trans c.args.self.now.faces.items c.loop-k.self.faces.items c.number_of.new.self.faces.items old.1 c.in_ok-numbers.ensures.grown,
      c.in_ok-numbers.ensures.terms ∙ old.2,
      c.in_ok-numbers.ensures.slots,
      simp length-set long,
    )
