use Rattle.std.proofs.Common.{arith}
use Rattle.interval_cut.proofs.GapLemmas.{inversions_step, later_short}
use Rattle.interval_cut.proofs.words.count_inversions.Goals as goal

pub overflow_add-count : goal.overflow_add-count
overflow_add-count c = omega (arith, later_short c.args.word.now c.loop-i.i c.count_below.result c.count_below.ensures.short, c.loop-i.invariant.1, c.requires, c.loop-i-test.true)

pub loop-i-preserved : goal.loop-i-preserved
loop-i-preserved c = (
  inversions_step c.args.word.now c.loop-i.i c.loop-i.count c.count_below.result c.loop-i-test.true c.count_below.ensures.count c.loop-i.invariant.0,
  omega (arith, later_short c.args.word.now c.loop-i.i c.count_below.result c.count_below.ensures.short, c.loop-i.invariant.1, c.requires),
)
