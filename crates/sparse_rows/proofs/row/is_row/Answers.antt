use Rattle.std.proofs.Common.{arith}
use Rattle.sparse_rows.proofs.MergeLemmas.{row_more}
use Rattle.sparse_rows.proofs.row.is_row.Goals as goal

pub loop-pair-preserved : goal.loop-pair-preserved
loop-pair-preserved g c =
    row_more g.row.P c.args.pairs.now c.loop-pair.pair-index c.loop-pair.least c.pair-item.result c.pair-item.is c.loop-pair-test.true c.loop-pair.invariant.0 c.loop-pair.invariant.1
    c.if-pair-least.false (λ e. let t = c.if-is_zero.false in let u = c.is_zero.ensures.zero in grind (arith, e, t, u)) c.is_zero.ensures.small
