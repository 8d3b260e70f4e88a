use Rattle.job_report.{specs.Jobs.IsDeeper, proofs.Zips.zip-pushed}
use Rattle.job_report.proofs.known.deepened.Goals as goal

pub loop-complex-preserved : goal.loop-complex-preserved
loop-complex-preserved g c =
    zip-pushed (IsDeeper g.A.Basis.is_of g.B.Basis.is_of) c.loop-complex.yielded c.loop-complex.all.items _ c.in-Some.complex c.in_ok-deeper.field-0 c.loop-complex.invariant c.in_ok-deeper.ensures c.in_ok-push.ensures.items
