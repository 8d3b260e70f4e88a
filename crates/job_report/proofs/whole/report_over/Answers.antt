use Rattle.job_report.proofs.JobLemmas.{same-error}
use Rattle.job_report.proofs.whole.report_over.Goals as goal

pub returns-in-Err-clause-refused : goal.returns-in-Err-clause-refused
returns-in-Err-clause-refused g c = λ count most e. c.in-Err.ensures.refused count most (same-error _ _ e)
