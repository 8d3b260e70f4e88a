use Rattle.steenrod_law.proofs.LawProofs.{scaling_law}
use Rattle.steenrod_law.proofs.scaling_law.Goals as goal

pub returns : goal.returns
returns c = scaling_law
