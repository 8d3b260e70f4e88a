use Rattle.fp_field.proofs.OrbitLemmas.{orbits}
use Rattle.fp_field.proofs.orbits.NormOrbits.orbits_law.Goals as goal

pub returns : goal.returns
returns g c = orbits g.row.P c.requires
