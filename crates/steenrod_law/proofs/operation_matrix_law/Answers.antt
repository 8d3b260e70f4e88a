use Rattle.steenrod_law.proofs.LawProofs.{operation_matrix_law}
use Rattle.steenrod_law.proofs.operation_matrix_law.Goals as goal

pub returns : goal.returns
returns c = operation_matrix_law
