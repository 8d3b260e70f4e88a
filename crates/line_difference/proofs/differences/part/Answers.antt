use Rattle.std.proofs.Common.{ap, subst, ◌∙◌}
use Rattle.report.specs.declared.plan.Op.{Op}
use Rattle.report_law.specs.Names.{target_degree}
use Rattle.line_difference.proofs.DifferenceLemmas.{IsResultRow, of-three, part-side}
use Rattle.line_difference.proofs.differences.part.Goals as goal

pub returns : goal.returns
returns g c =
    let p = g.row.P in
    let levels = c.args.index.now in
    let x = c.args.x.now in
    let y = c.args.y.now in
    let left = c.in_ok-left.left in
    let right = c.in_ok-right.right in
    of-three c.cup.result _ _ _ _
    (λ r d v k. part-side p c.requires.prime levels c.args.line x y c.requires.first c.requires.second c.args.table.now c.args.pair left right r c.requires.pair
    (c.in_ok-left.ensures.degree ∙ ap (λ (op : Op). target_degree p x.degree op) c.cartan_op.ensures)
    (subst (λ (op : Op). IsResultRow p levels op x.degree x.row left.row) c.cartan_op.ensures (record { inside = c.in_ok-left.ensures.inside; operation = c.in_ok-left.ensures.operation; closed = c.in_ok-left.ensures.closed }))
    (c.in_ok-right.ensures.degree ∙ ap (λ (op : Op). target_degree p y.degree op) c.cartan_op-2.ensures)
    (subst (λ (op : Op). IsResultRow p levels op y.degree y.row right.row) c.cartan_op-2.ensures (record { inside = c.in_ok-right.ensures.inside; operation = c.in_ok-right.ensures.operation; closed = c.in_ok-right.ensures.closed }))
    (record { values = v; closed = k }))
    c.cup.ensures.degree c.cup.ensures.values c.cup.ensures.closed
