use Rattle.complex_file.proofs.JobLemmas.{spelled_job}
use Rattle.complex_file.proofs.laws.spelled_job.Goals as goal

pub returns : goal.returns
returns c = spelled_job
