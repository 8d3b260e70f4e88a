use Rattle.std.proofs.{Common.{◌-◌}, lemmas.Result.IfOk-weaker}
use Rattle.op_matrix.proofs.TableLemmas.{result-column}
use Rattle.op_matrix.proofs.matrices.result_column.Goals as goal

pub returns : goal.returns
returns g c =
    let levels = c.args.index.now in
    IfOk-weaker c.column.result _ _
    (λ col h w at. result-column g.row.P g.B.Basis.keeps levels (g.B.Basis.classes c.args.basis.now) (g.met.B.Basis.canonical levels c.args.basis.now c.requires.of) c.requires.prime c.args.block (c.args.i - 1)
    c.class.result.now w c.in_ok-result.result col c.requires.target c.class.ensures at c.in_ok-result.ensures.degree c.in_ok-result.ensures.operation c.in_ok-result.ensures.closed (h levels c.requires.of))
    c.column.ensures
