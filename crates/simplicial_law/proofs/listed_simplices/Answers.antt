use Rattle.simplicial_law.proofs.ListedSimplices.{listed_simplices_law}
use Rattle.simplicial_law.proofs.listed_simplices.Goals as goal

pub returns : goal.returns
returns c = listed_simplices_law
