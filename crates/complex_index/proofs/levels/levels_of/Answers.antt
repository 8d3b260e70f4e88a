use Rattle.std.proofs.Common.{arith}
use Rattle.complex_index.proofs.LevelLemmas.{partly_all, partly_more, partly_none}
use Rattle.complex_index.proofs.levels.levels_of.Goals as goal

pub loop-n-init : goal.loop-n-init
loop-n-init c = partly_none c.args.all.now c.new-levels.result.items c.new-levels.ensures.items

pub loop-n-preserved : goal.loop-n-preserved
loop-n-preserved c =
    partly_more c.args.all.now c.loop-n.n c.loop-n.levels.items c.push.new.self.items c.in_ok-level_at.field-0 (omega arith) c.loop-n.invariant c.in_ok-push.ensures.items c.in_ok-level_at.ensures.same c.in_ok-level_at.ensures.fits

pub returns : goal.returns
returns c = partly_all c.args.all.now c.loop-n.n c.loop-n.levels.items c.loop-n-test.false c.loop-n.invariant
