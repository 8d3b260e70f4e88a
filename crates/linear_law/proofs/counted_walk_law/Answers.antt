use Rattle.linear_law.proofs.Walks.{counted_walk_law}
use Rattle.linear_law.proofs.counted_walk_law.Goals as goal

pub returns : goal.returns
returns c = counted_walk_law
