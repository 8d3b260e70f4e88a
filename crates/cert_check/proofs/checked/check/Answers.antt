use Rattle.std.proofs.Common.{arith}
use Rattle.cert_check.proofs.PartLemmas.{formed}
use Rattle.cert_check.proofs.checked.check.Goals as goal

pub unreachable-requires : goal.unreachable-requires
unreachable-requires c = let h = (formed c.args.report.now c.requires.well_formed).prime in grind (arith, h)
