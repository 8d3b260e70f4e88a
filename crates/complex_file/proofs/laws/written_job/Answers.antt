use Rattle.complex_file.proofs.WrittenBlocks.{written_job}
use Rattle.complex_file.proofs.laws.written_job.Goals as goal

pub returns : goal.returns
returns c = written_job
