use Rattle.std.proofs.{Common.{◌≡◌, ◌∙◌, ◌+◌, get_or, subst, sym}, lemmas.List.get_or_default}
use Rattle.may_steenrod.{specs.Cochains.IsRowOfFirst, proofs.PlaceLemmas.{first-put, first-skip}, proofs.places.row_of.Goals.{then-not-is_zero+in_ok-push_last, else-not-is_zero}}
use Rattle.may_steenrod.proofs.places.row_of.Goals as goal

pub loop-place-preserved : goal.loop-place-preserved
loop-place-preserved g c =
    let i = c.loop-place.place in
    let v = c.index-values-place.result in
    let here : v ≡ get_or c.args.values.now i 0 = c.index-values-place.is ∙ get_or_default c.args.values.now i v 0 c.loop-place-test.true in
    elim c.if-not-is_zero.branch [
      | then-not-is_zero+in_ok-push_last w ↦
          subst (IsRowOfFirst c.args.values.now (i + 1)) (sym w.row-is)
          (first-put c.args.values.now i v c.loop-place.row w.push_last.new.self here w.in_ok-push_last.ensures.pushed c.loop-place.invariant)
      | else-not-is_zero w ↦
          subst (IsRowOfFirst c.args.values.now (i + 1)) (sym w.row-is)
          (first-skip c.args.values.now i c.loop-place.row (sym (c.is_zero.ensures.zero.0 w.if-not-is_zero.false) ∙ here) c.loop-place.invariant)
    ]
