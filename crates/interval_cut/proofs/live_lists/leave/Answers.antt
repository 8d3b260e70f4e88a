use Rattle.std.proofs.Common.{◌∙◌}
use Rattle.interval_cut.proofs.{LiveListLemmas.{leave-cut, leave-cut_last, leave-last, leave-passed}, live_lists.leave.Goals.{then-dead-inner, else-dead-inner}}
use Rattle.interval_cut.proofs.live_lists.leave.Goals as goal

pub returns-clause-lists : goal.returns-clause-lists
returns-clause-lists c q u l d =
    elim c.if-dead-inner.branch [
      | then-dead-inner w ↦
          leave-passed c.next_list.result q u c.args.top c.args.inner.now c.if-dead-inner.inner c.next_list.new.list c.args.dead.interval c.args.dead.last l d c.next_list.ensures
          w.if-dead-inner.true (w.inner-is ∙ w.pass_over.ensures)
      | else-dead-inner w ↦
          leave-last c.next_list.result q u c.args.top c.args.inner.now c.if-dead-inner.inner c.next_list.new.list c.args.dead.interval c.args.dead.last l d c.next_list.ensures w.inner-is
    ]

pub returns-clause-cut : goal.returns-clause-cut
returns-clause-cut c q u l d h =
    elim c.if-dead-inner.branch [
      | then-dead-inner w ↦
          leave-cut c.next_list.result q u c.args.top c.args.inner.now c.if-dead-inner.inner c.next_list.new.list c.args.dead.interval c.args.dead.last l d c.next_list.ensures
          w.if-dead-inner.true (w.inner-is ∙ w.pass_over.ensures) h
      | else-dead-inner w ↦
          leave-cut_last c.next_list.result q u c.args.top c.args.inner.now c.if-dead-inner.inner c.next_list.new.list c.args.dead.interval c.args.dead.last l d c.next_list.ensures w.inner-is h
    ]
