use Rattle.column_check.proofs.SumLemmas.{added-more}
use Rattle.column_check.proofs.sums.add_classes.Goals as goal

pub loop-i-preserved : goal.loop-i-preserved
loop-i-preserved g c =
    added-more g.row.P c.args.values.now c.args.classes.now c.loop-i.i c.new.result c.index-classes-i.result c.args.sum.now c.loop-i.sum c.add_scaled.new.self c.requires.size c.loop-i-test.true c.index-classes-i.is c.new.ensures
    c.in_ok-add_scaled.ensures.row c.in_ok-add_scaled.ensures.sum c.loop-i.invariant
