use Rattle.std.proofs.Common.{ap, subst, ◌∙◌}
use Rattle.report.specs.declared.plan.Op.{Op}
use Rattle.report_law.specs.Names.{target_degree}
use Rattle.line_difference.proofs.DifferenceLemmas.{IsResultRow, of-four, whole-side}
use Rattle.line_difference.proofs.differences.whole.Goals as goal

pub returns : goal.returns
returns g c =
    let p = g.row.P in
    let levels = c.args.index.now in
    let z = c.in_ok-product.product in
    of-four c.operation.result _ _ _ _ _
    (λ r d b o k. whole-side p c.requires.prime levels c.args.line c.args.x.now c.args.y.now c.requires.first c.requires.second z r c.requires.defined
    c.in_ok-product.ensures.degree (record { values = c.in_ok-product.ensures.values; closed = c.in_ok-product.ensures.closed })
    (d ∙ ap (λ (op : Op). target_degree p z.degree op) c.cartan_op.ensures)
    (subst (λ (op : Op). IsResultRow p levels op z.degree z.row r.row) c.cartan_op.ensures (record { inside = b; operation = o; closed = k })))
    c.operation.ensures.degree c.operation.ensures.inside c.operation.ensures.operation c.operation.ensures.closed
