use Rattle.operad_law.proofs.{WordLemmas.{odd_pairs-step, turned, unturned}, odd_word.is_odd_rearrangement.Goals.{then-is_odd_count, else-is_odd_count}}
use Rattle.operad_law.proofs.odd_word.is_odd_rearrangement.Goals as goal

pub loop-i-preserved : goal.loop-i-preserved
loop-i-preserved c =
    let step = odd_pairs-step c.args.to.now c.args.from.now c.loop-i.i c.loop-i.odd c.if-is_odd_count.odd c.is_odd_count.result _ c.loop-i-test.true c.is_odd_count.ensures in
    elim c.if-is_odd_count.branch [
      | then-is_odd_count w ↦ step (turned _ _ _ w.if-is_odd_count.true w.odd-is) c.loop-i.invariant
      | else-is_odd_count w ↦ step (unturned _ _ _ w.if-is_odd_count.false w.odd-is) c.loop-i.invariant
    ]
