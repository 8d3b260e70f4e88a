use Rattle.std.proofs.Common.{subst}
use Rattle.cert_check.specs.Checked.{IsChecked}
use Rattle.sample_torus.proofs.SampleLemmas.{no_failure}
use Rattle.sample_torus.proofs.sizes.certified.Goals as goal

pub unreachable-requires : goal.unreachable-requires
unreachable-requires c = no_failure c.args.report.now c.in-No.condition c.in-No.line c.requires.certifies (subst (IsChecked c.args.report.now) c.in-No.is c.in_ok-check.ensures)
