use Rattle.std.proofs.Common.{sym, ap, ◌∙◌, get_or, w64, is_eq, rules, FitsSigned}
use Rattle.std.proofs.lemmas.Int.{to_z-of_z}
use Rattle.operad_law.proofs.TermPlaces.{coefficient-end, coefficient-here, coefficient-missing}
use Rattle.operad_law.proofs.formal_sum.coefficient_in.Goals as goal
use Rattle.operad_law.proofs.formal_sum.coefficient_in.Goals.{else-place-terms-via-then-place-terms+else-is_eq, else-place-terms-via-else-place-terms}

pub returns-then-is_eq : goal.returns-then-is_eq
returns-then-is_eq g c =
    let fits : FitsSigned w64 (get_or c.args.terms.now c.place_of-place.result c.index-terms-place-then-is_eq.result).1 = search rules in
    to_z-of_z w64 _ fits
    ∙ coefficient-here g.B.Ord.cmp g.met.B.Ord.total c.args.item.now c.args.terms.now c.place_of-place.result c.index-terms-place.result c.index-terms-place-then-is_eq.result c.requires c.if-place-terms.true
    c.place_of-place.ensures.above (c.place_of-place.ensures.stops c.index-terms-place.result c.if-place-terms.true)
    (ap is_eq (sym c.cmp.ensures) ∙ sym c.is_eq.ensures ∙ c.if-is_eq.true)

pub returns : goal.returns
returns g c =
    elim c.else-place-terms.branch [
      | else-place-terms-via-then-place-terms+else-is_eq w ↦
          sym (coefficient-missing g.B.Ord.cmp g.met.B.Ord.total c.args.item.now c.args.terms.now c.place_of-place.result w.index-terms-place.result c.requires w.if-place-terms.true
          c.place_of-place.ensures.above (c.place_of-place.ensures.stops w.index-terms-place.result w.if-place-terms.true)
          (ap is_eq (sym w.cmp.ensures) ∙ sym w.is_eq.ensures ∙ w.if-is_eq.false))
      | else-place-terms-via-else-place-terms w ↦
          sym (coefficient-end g.B.Ord.cmp c.args.item.now c.args.terms.now c.place_of-place.result w.if-place-terms.false c.place_of-place.ensures.above)
    ]
