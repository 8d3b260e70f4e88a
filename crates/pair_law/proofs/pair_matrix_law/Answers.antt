use Rattle.pair_law.proofs.Exactness.{pair_matrices}
use Rattle.pair_law.proofs.pair_matrix_law.Goals as goal

pub returns : goal.returns
returns c = pair_matrices
