use Rattle.std.proofs.Common.{refl, arith, length-take-le, length-drop, length, drop, ◌-◌}
use Rattle.interval_cut.proofs.ListLemmas.{lists_after-full, next_written}
use Rattle.interval_cut.proofs.lists.next_list.Goals as goal

pub returns-in-Some : goal.returns-in-Some
returns-in-Some c =
    next_written c.args.top c.args.list.now c.fill.new.self c.in-Some.i _ _ c.in-Some.ensures
    (length-take-le (length c.args.list.now - c.in-Some.i) (drop c.in-Some.i c.args.list.now) (omega (arith, length-drop c.in-Some.i c.args.list.now)))
    (c.fill.ensures.after (λ y e. e)) (omega arith)

pub returns-in-None : goal.returns-in-None
returns-in-None c = (lists_after-full c.args.top c.args.list.now c.in-None.ensures, refl)
