use Rattle.pair_law.proofs.RelativeOperations.{relative_operations}
use Rattle.pair_law.proofs.relative_operation_law.Goals as goal

pub returns : goal.returns
returns c = relative_operations
