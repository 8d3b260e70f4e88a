use Rattle.relative_law.proofs.Duals.{relative_dual_law}
use Rattle.relative_law.proofs.relative_dual_law.Goals as goal

pub returns : goal.returns
returns c = relative_dual_law
