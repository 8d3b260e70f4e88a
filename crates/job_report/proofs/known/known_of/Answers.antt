use Rattle.job_report.{specs.Jobs.{CanBeIndexed, IsKnown}, proofs.Zips.{each-item, zip-more}}
use Rattle.complex_file.specs.declared.block.ComplexBlock.{ComplexBlock}
use Rattle.job_report.proofs.known.known_of.Goals as goal

pub of-requires : goal.of-requires
of-requires g c =
    let h = each-item (λ (b : ComplexBlock). CanBeIndexed b.facets) c.args.blocks.now c.loop-block.block-index c.block-item.result c.loop-block-test.true c.block-item.is c.requires.complexes in
    record { ascending = h.ascending; short = h.short; few = h.few }

pub loop-block-preserved : goal.loop-block-preserved
loop-block-preserved g c =
    zip-more (IsKnown g.B.Basis.is_of) c.args.blocks.now c.loop-block.known.items _ c.loop-block.block-index c.block-item.result _ c.loop-block-test.true c.block-item.is
    c.loop-block.invariant (c.in_ok-index.ensures, c.in_ok-basis.ensures) c.in_ok-push.ensures.items
