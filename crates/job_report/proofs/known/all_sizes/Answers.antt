use Rattle.job_report.{specs.Jobs.IsSize, proofs.Zips.zip-more}
use Rattle.job_report.proofs.known.all_sizes.Goals as goal

pub loop-complex-preserved : goal.loop-complex-preserved
loop-complex-preserved g c =
    zip-more (IsSize {p = g.row.P} g.B.Basis.classes) c.args.known.now c.loop-complex.sizes.items _ c.loop-complex.complex-index c.complex-item.result _ c.loop-complex-test.true c.complex-item.is c.loop-complex.invariant
    (record { simplices = c.in_ok-sizes_of.ensures.simplices; ranks = c.in_ok-sizes_of.ensures.ranks; few = c.in_ok-sizes_of.ensures.few }) c.in_ok-push.ensures.items
