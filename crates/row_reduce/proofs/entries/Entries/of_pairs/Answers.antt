use Rattle.std.proofs.Common.{arith}
use Rattle.row_reduce.proofs.EntryLemmas.{entries_alone, pairs_more}
use Rattle.row_reduce.proofs.entries.Entries.of_pairs.Goals as goal

pub loop-pair-preserved : goal.loop-pair-preserved
loop-pair-preserved g c = record {
  pairs = pairs_more c.args.pairs.now c.loop-pair.pair-index c.pair-item.result c.loop-pair.places.items c.loop-pair.values.items c.push.new.self.items c.push-in-loop-pair.new.self.items
      c.pair-item.is c.loop-pair-test.true c.loop-pair.invariant.same c.loop-pair.invariant.pairs c.in_ok-push.ensures.items c.in_ok-push-2.ensures.items;
  same = omega (arith, c.loop-pair.invariant.same, c.in_ok-push.ensures.len, c.in_ok-push-2.ensures.len);
}

pub invariant_of-result : goal.invariant_of-result
invariant_of-result g c = (omega (arith, c.loop-pair.invariant.same), omega (arith, c.loop-pair.invariant.same))

pub returns : goal.returns
returns g c = entries_alone c.loop-pair.places.items c.loop-pair.values.items c.args.pairs.now c.loop-pair.pair-index c.loop-pair.invariant.same c.loop-pair.invariant.pairs (omega arith)
