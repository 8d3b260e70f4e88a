use Rattle.pair_law.proofs.Certificates.{certificate_law}
use Rattle.pair_law.proofs.certificate_law.Goals as goal

pub returns : goal.returns
returns c = certificate_law
