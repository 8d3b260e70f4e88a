use Rattle.std.proofs.Common.{refl}
use Rattle.cohomology.proofs.BasisLemmas.{full_column}
use Rattle.cohomology.proofs.basis.CohomologyBasis.column.Goals as goal

pub returns : goal.returns
returns g c = λ levels are closed. full_column g.row.P levels c.args.self.now c.args.cochain.now _ _ _ refl c.in_ok-found.ensures are closed
