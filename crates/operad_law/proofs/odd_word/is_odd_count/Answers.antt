use Rattle.operad_law.proofs.{WordLemmas.{odd_count-step, turned, unturned}, odd_word.is_odd_count.Goals.{then-comes_before, else-comes_before}}
use Rattle.operad_law.proofs.odd_word.is_odd_count.Goals as goal

pub loop-y-preserved : goal.loop-y-preserved
loop-y-preserved c =
    let step = odd_count-step c.args.word.now c.args.x c.args.others.now c.loop-y.y-index c.loop-y.odd c.if-comes_before.odd c.comes_before.result _ c.loop-y-test.true c.comes_before.ensures in
    elim c.if-comes_before.branch [
      | then-comes_before w ↦ step (turned _ _ _ w.if-comes_before.true w.odd-is) c.loop-y.invariant
      | else-comes_before w ↦ step (unturned _ _ _ w.if-comes_before.false w.odd-is) c.loop-y.invariant
    ]
