use Rattle.cycle_table.proofs.CombinedLemmas.{scaled_more}
use Rattle.cycle_table.proofs.combining.append_scaled.Goals as goal

pub loop-pair-preserved : goal.loop-pair-preserved
loop-pair-preserved g c =
    scaled_more g.row.P c.args.by c.args.row.now c.args.pairs.now.items c.loop-pair.pairs.items c.push.new.self.items c.loop-pair.pair-index c.mul.result c.pair-item.result c.pair-item.is
    c.loop-pair-test.true c.mul.ensures c.in_ok-push.ensures.items c.loop-pair.invariant
