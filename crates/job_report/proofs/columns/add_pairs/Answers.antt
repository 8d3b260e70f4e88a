use Rattle.job_report.proofs.Zips.{appended-more}
use Rattle.job_report.proofs.columns.add_pairs.Goals as goal

pub loop-j-preserved : goal.loop-j-preserved
loop-j-preserved c = appended-more (λ j. (c.args.i, j)) c.loop-j.j c.args.pairs.now.items c.loop-j.pairs.items _ c.loop-j.invariant c.in_ok-push.ensures.items
