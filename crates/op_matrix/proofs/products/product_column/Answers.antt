use Rattle.std.proofs.{Common.{◌-◌}, lemmas.Result.IfOk-weaker}
use Rattle.op_matrix.proofs.TableLemmas.{pair-column}
use Rattle.op_matrix.proofs.products.product_column.Goals as goal

pub returns : goal.returns
returns g c =
    let levels = c.args.index.now in
    IfOk-weaker c.column.result _ _
    (λ col h z w at_z at_w. pair-column g.row.P g.B.Basis.keeps levels (g.B.Basis.classes c.args.basis.now) (g.met.B.Basis.canonical levels c.args.basis.now c.requires.of) c.requires.prime c.args.product (c.args.i - 1) (c.args.j - 1)
    c.class-class.result.now c.class.result.now z w c.in_ok-result.result col c.class-class.ensures c.class.ensures at_z at_w c.in_ok-result.ensures.values c.in_ok-result.ensures.degree c.in_ok-result.ensures.closed (h levels c.requires.of))
    c.column.ensures
