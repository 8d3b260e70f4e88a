use Rattle.certificate_law.proofs.WrittenJobs.{well_formed_law}
use Rattle.certificate_law.proofs.well_formed_law.Goals as goal

pub returns : goal.returns
returns c = well_formed_law
