use Rattle.std.proofs.{Common.{◌∙◌, ap, subst, sym}, lemmas.Result.IfOk-weaker}
use Rattle.report.specs.declared.plan.Op.{Op}
use Rattle.report_law.specs.Names.{IsOperation, target_degree}
use Rattle.cartan_check.proofs.ByMatrixLemmas.{part-has}
use Rattle.cartan_check.proofs.by_matrices.part.Goals as goal

pub returns-clause-part : goal.returns-clause-part
returns-clause-part g c =
    let p = g.row.P in
    let x = c.args.x.now in
    let y = c.args.y.now in
    let left = c.in_ok-left.left in
    let right = c.in_ok-right.right in
    IfOk-weaker c.product_of.result _ _
    (λ r h facets levels z w on hz hw. part-has p c.requires.prime facets levels (g.B.Basis.classes c.args.basis.now) x y left right r c.args.pair z w c.requires.first c.requires.second
    (c.in_ok-left.ensures.degree ∙ ap (λ (op : Op). target_degree p x.degree op) c.cartan_op.ensures)
    (λ b is. c.in_ok-left.ensures.result facets levels z b on hz (subst (λ (op : Op). IsOperation facets p op x.degree z b) (sym c.cartan_op.ensures) is))
    (c.in_ok-right.ensures.degree ∙ ap (λ (op : Op). target_degree p y.degree op) c.cartan_op-2.ensures)
    (λ b is. c.in_ok-right.ensures.result facets levels w b on hw (subst (λ (op : Op). IsOperation facets p op y.degree w b) (sym c.cartan_op-2.ensures) is))
    (λ u v hu hv. h facets levels u v on hu hv))
    c.product_of.ensures.product
