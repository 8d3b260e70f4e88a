use Rattle.std.proofs.Common.{refl}
use Rattle.cohomology.proofs.BasisLemmas.{light_column}
use Rattle.cohomology.proofs.basis.ClassesBasis.column.Goals as goal

pub returns : goal.returns
returns g c = λ levels are closed. light_column g.row.P levels c.args.self.now c.args.cochain.now _ _ refl c.in_ok-values.ensures are closed
