use Rattle.interval_cut.proofs.LiveListLemmas.{cut-moved, cut-zeros, left-at, left-first}
use Rattle.interval_cut.proofs.live_lists.first_left.Goals as goal

pub returns-in-Before-clause-lists : goal.returns-in-Before-clause-lists
returns-in-Before-clause-lists c = left-first c.args.stage c.args.top c.args.inner.now c.fill.new.self c.in-Before.is (c.fill.ensures.after (λ y e. e))

pub returns-in-Before-clause-cut : goal.returns-in-Before-clause-cut
returns-in-Before-clause-cut c u l h = cut-zeros u c.args.top c.args.inner.now c.fill.new.self (c.fill.ensures.after (λ y e. e)) h

pub returns-in-At-clause-lists : goal.returns-in-At-clause-lists
returns-in-At-clause-lists c = left-at c.args.stage c.next_list.result c.args.top c.args.inner.now c.next_list.new.list c.in-At.is c.next_list.ensures

pub returns-in-At-clause-cut : goal.returns-in-At-clause-cut
returns-in-At-clause-cut c u l h = cut-moved c.next_list.result u c.args.top c.args.inner.now c.next_list.new.list c.next_list.ensures h
