use Rattle.std.proofs.Common.{arith}
use Rattle.report_law.proofs.Names.{job-prime}
use Rattle.job_report.proofs.bases.make_bases.Goals as goal

pub unreachable-requires : goal.unreachable-requires
unreachable-requires c = let h = job-prime c.args.job.now.prime c.args.job.now.complexes c.args.job.now.maps c.args.job.now.kept in grind (arith, h)
