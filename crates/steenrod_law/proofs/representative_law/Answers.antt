use Rattle.steenrod_law.proofs.LawProofs.{representative_law}
use Rattle.steenrod_law.proofs.representative_law.Goals as goal

pub returns : goal.returns
returns c = representative_law
