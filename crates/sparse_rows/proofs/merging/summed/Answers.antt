use Rattle.std.proofs.Common.{arith, take_all}
use Rattle.fp_field.proofs.ServedLemmas.{served_large}
use Rattle.sparse_rows.proofs.SortLemmas.{summed_end, summed_step}
use Rattle.sparse_rows.proofs.merging.summed.Goals as goal

pub loop-pair-preserved : goal.loop-pair-preserved
loop-pair-preserved g c =
    summed_step g.row.P c.args.pairs.now c.loop-pair.out.items c.pass.new.out.items c.loop-pair.pair-index c.loop-pair.position c.loop-pair.sum c.in_ok-pass.field-0 c.add-sum.result c.pair-item.result
    c.requires.ascends c.pair-item.is c.loop-pair-test.true c.in_ok-pass.ensures.row c.in_ok-pass.ensures.below c.in_ok-pass.ensures.sum c.add-sum.ensures c.loop-pair.invariant

pub returns-clause-sum : goal.returns-clause-sum
returns-clause-sum g c =
    summed_end g.row.P c.args.pairs.now c.loop-pair.out.items c.put.new.out.items c.loop-pair.pair-index c.loop-pair.position c.loop-pair.sum (let q = served_large g.row.P c.requires.prime in omega arith)
    (take_all c.loop-pair.pair-index c.args.pairs.now (omega arith)) c.in_ok-put.ensures.row c.in_ok-put.ensures.sum c.loop-pair.invariant
