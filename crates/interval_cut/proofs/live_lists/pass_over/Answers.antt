use Rattle.std.proofs.Common.{arith, length-take-le, length-drop, length, drop, set, ◌-◌, ◌+◌}
use Rattle.interval_cut.proofs.LiveListLemmas.{passed-written}
use Rattle.interval_cut.proofs.live_lists.pass_over.Goals as goal

pub returns : goal.returns
returns c =
    let p = set c.args.inner.now c.args.i c.args.last in
    passed-written c.args.top c.args.inner.now c.fill.new.self c.args.i c.args.last _ c.requires
    (length-take-le (length p - (c.args.i + 1)) (drop (c.args.i + 1) p) (omega (arith, length-drop (c.args.i + 1) p)))
    (c.fill.ensures.after (λ y e. e))
