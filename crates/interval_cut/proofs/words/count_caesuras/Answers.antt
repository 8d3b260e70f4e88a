use Rattle.std.proofs.Common.{◌+◌, arith, drop, slice_index}
use Rattle.signed_sum.proofs.Names.{occurs_once}
use Rattle.interval_cut.proofs.GapLemmas.{caesuras_step}
use Rattle.interval_cut.proofs.words.count_caesuras.Goals as goal

pub overflow_add-count : goal.overflow_add-count
overflow_add-count c = omega (arith, occurs_once (slice_index c.args.values.now c.loop-i.i) (drop (c.loop-i.i + 1) c.args.values.now), c.comes_again-count.ensures, c.loop-i.invariant.1, c.requires, c.loop-i-test.true)

pub loop-i-preserved : goal.loop-i-preserved
loop-i-preserved c = (
  caesuras_step c.args.values.now c.loop-i.i c.loop-i.count c.comes_again-count.result c.loop-i-test.true c.comes_again-count.ensures c.loop-i.invariant.0,
  omega (arith, occurs_once (slice_index c.args.values.now c.loop-i.i) (drop (c.loop-i.i + 1) c.args.values.now), c.comes_again-count.ensures, c.loop-i.invariant.1),
)
