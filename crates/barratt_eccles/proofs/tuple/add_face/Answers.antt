use Rattle.std.proofs.{Common.{sym, ap, ◌∙◌, ◌≡◌, false, w64}, lemmas.Int.to_z-of_z}
use Rattle.table_reduction_law.specs.Names.{is_zero_tuple}
use Rattle.barratt_eccles.proofs.FaceLemmas.{AddsFace-term}
use Rattle.barratt_eccles.proofs.tuple.add_face.Goals as goal

pub returns-in-Ok : goal.returns-in-Ok
returns-in-Ok c =
    let kept : is_zero_tuple c.in_ok-face.face.items ≡ false = ap is_zero_tuple (sym c.as_slice.ensures.value) ∙ sym c.is_zero.ensures ∙ c.if-is_zero.false in
    rw (c.in-Ok.ensures.ok, to_z-of_z w64 c.args.sign c.ranges.sign)
    (AddsFace-term c.args.entries.now c.args.place c.args.sign c.args.sum.now c.in_ok-face.face.items c.in_ok-face.ensures kept c.requires.small)
