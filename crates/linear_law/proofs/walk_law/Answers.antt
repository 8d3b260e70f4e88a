use Rattle.linear_law.proofs.WalkedSpaces.{walk_law}
use Rattle.linear_law.proofs.walk_law.Goals as goal

pub returns : goal.returns
returns c = walk_law
