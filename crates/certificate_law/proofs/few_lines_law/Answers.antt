use Rattle.certificate_law.proofs.WrittenJobs.{few_lines_law}
use Rattle.certificate_law.proofs.few_lines_law.Goals as goal

pub returns : goal.returns
returns c = few_lines_law
