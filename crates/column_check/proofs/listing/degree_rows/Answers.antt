use Rattle.std.proofs.Common.{◌∙◌, subst}
use Rattle.column_check.{specs.Listings.IsRowOfClass, proofs.ListLemmas.zip-next}
use Rattle.column_check.proofs.listing.degree_rows.Goals as goal

pub loop-class-preserved : goal.loop-class-preserved
loop-class-preserved g c =
    let R = IsRowOfClass g.row.P c.args.index.now c.args.n in
    zip-next R c.args.classes.now c.loop-class.class-index c.class-item.result c.loop-class.rows.items c.push.new.self.items c.in_ok-class_row.field-0 c.loop-class-test.true c.in_ok-push.ensures.items c.loop-class.invariant
    (subst (λ (z : _). R z c.in_ok-class_row.field-0) (c.as_slice.ensures ∙ c.class-item.is) c.in_ok-class_row.ensures)
