use Rattle.pair_law.proofs.Exactness.{exact_matrices}
use Rattle.pair_law.proofs.exact_matrix_law.Goals as goal

pub returns : goal.returns
returns c = exact_matrices
