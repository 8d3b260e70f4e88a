use Rattle.std.proofs.Common.{take, drop, sym, rules, take-append-drop}
use Rattle.comch_io.proofs.KnownBytesLemmas.{appends_more, appends_kept}
use Rattle.comch_io.proofs.reading.write_all.Goals as goal

pub loop-at-preserved : goal.loop-at-preserved
loop-at-preserved g c = record {
  within = search rules;
  written = appends_more _ _ _ _ _ _ c.loop-at.invariant.written c.in-Ok.ensures.bytes;
  kept = search rules;
}

pub returns-in-Err-clause-bytes : goal.returns-in-Err-clause-bytes
returns-in-Err-clause-bytes g c =
    (take c.loop-at.at c.args.text.now, drop c.loop-at.at c.args.text.now, sym (take-append-drop c.loop-at.at c.args.text.now), appends_kept _ _ _ _ c.loop-at.invariant.written c.in-Err.ensures.bytes)
