use Rattle.std.proofs.Common.{◌∙◌}
use Rattle.sparse_rows.proofs.RowLemmas.{pairing_more}
use Rattle.sparse_rows.proofs.row.Row.dot.Goals as goal

pub loop-pair-preserved : goal.loop-pair-preserved
loop-pair-preserved g c =
    c.add-sum.ensures
    ∙ pairing_more g.row.P c.as_slice-pair-items.result.now c.args.other.now c.loop-pair.pair-index c.pair-item.result c.loop-pair.sum c.at.result c.mul.result c.pair-item.is c.loop-pair-test.true
    c.loop-pair.invariant c.at.ensures c.mul.ensures
