use Rattle.simplicial_law.proofs.DualLemmas.{dual_cycles_law}
use Rattle.simplicial_law.proofs.dual_cycles.Goals as goal

pub returns : goal.returns
returns c = dual_cycles_law
