use Rattle.steenrod_law.proofs.Staircase.{staircase_law}
use Rattle.steenrod_law.proofs.staircase_law.Goals as goal

pub returns : goal.returns
returns c = staircase_law
