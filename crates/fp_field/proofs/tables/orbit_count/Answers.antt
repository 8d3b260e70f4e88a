use Rattle.std.proofs.Common.{sym, ap, length}
use Rattle.fp_field.proofs.OrbitLemmas.{orbits_at_five}
use Rattle.fp_field.proofs.tables.orbit_count.Goals as goal

pub returns-in-5 : goal.returns-in-5
returns-in-5 c = sym (ap length (orbits_at_five c.args.p c.in-5.is))
