use Rattle.std.proofs.Common.{[], ◌∷◌, ◌++◌, arith}
use Rattle.interval_cut.proofs.GapLemmas.{step_room, word_room, word_step}
use Rattle.interval_cut.proofs.words.write_word.Goals as goal

pub write_gaps-next-requires-clause-room : goal.write_gaps-next-requires-clause-room
write_gaps-next-requires-clause-room c =
    step_room c.loop-k.k c.args.values.now c.args.inner.now c.args.top c.loop-k.next _ c.requires.cut c.requires.short c.requires.low (omega (arith, c.requires.room, c.loop-k.auto.word)) c.loop-k.invariant.0

pub loop-k-preserved : goal.loop-k-preserved
loop-k-preserved c =
    word_step c.args.values.now (c.args.inner.now ++ (c.args.top ∷ [])) c.loop-k.k c.loop-k.next c.write_gaps-next.result c.loop-k.word c.write_gaps-next.new.word c.loop-k.invariant.0 c.loop-k.invariant.1
    c.write_gaps-next.ensures.next c.write_gaps-next.ensures.written

pub returns-clause-next : goal.returns-clause-next
returns-clause-next c = omega (arith, word_room c.loop-k.k c.args.values.now c.args.inner.now c.args.top c.requires.cut c.requires.short c.requires.low, c.loop-k.invariant.0)
