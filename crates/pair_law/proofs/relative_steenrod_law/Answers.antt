use Rattle.pair_law.proofs.RelativeOperations.{relative_steenrod_law}
use Rattle.pair_law.proofs.relative_steenrod_law.Goals as goal

pub returns : goal.returns
returns c = relative_steenrod_law
