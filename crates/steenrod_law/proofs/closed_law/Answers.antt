use Rattle.steenrod_law.proofs.LawProofs.{closed_law}
use Rattle.steenrod_law.proofs.closed_law.Goals as goal

pub returns : goal.returns
returns c = closed_law
