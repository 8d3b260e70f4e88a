use Rattle.std.proofs.Common.{map}
use Rattle.signed_sum.specs.Names.{numbers_from}
use Rattle.job_report.proofs.Zips.{rows-more}
use Rattle.job_report.proofs.columns.number_pairs.Goals as goal

pub loop-i-preserved : goal.loop-i-preserved
loop-i-preserved c = rows-more (λ i. map (λ j. (i, j)) (numbers_from 1 c.args.second)) c.loop-i.i c.loop-i.pairs.items _ c.loop-i.invariant c.in_ok-add_pairs.ensures
