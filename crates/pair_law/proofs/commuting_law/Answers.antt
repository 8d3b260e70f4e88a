use Rattle.pair_law.proofs.RelativeOperations.{commuting_operations}
use Rattle.pair_law.proofs.commuting_law.Goals as goal

pub returns : goal.returns
returns c = commuting_operations
