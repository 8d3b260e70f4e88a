use Rattle.std.proofs.Common.{◌≤◌, arith, false, length, lit<, refl}
use Rattle.complex_file.specs.declared.block.ComplexBlock.{ComplexBlock}
use Rattle.report_law.specs.Names.{IsComplexPart}
use Rattle.job_report.{specs.Jobs.CanBeIndexed, proofs.Zips.{all-items, each-item, zip-more}}
use Rattle.job_report.proofs.bases.basis_parts.Goals as goal

pub basis_part-requires : goal.basis_part-requires
basis_part-requires g c = record {
  prime = c.requires.prime;
  complex = each-item (λ (b : ComplexBlock). CanBeIndexed b.facets) c.args.blocks.now c.loop-block.block-index c.block-item.result c.loop-block-test.true c.block-item.is c.requires.complexes;
}

pub loop-block-preserved : goal.loop-block-preserved
loop-block-preserved g c =
    zip-more (IsComplexPart false false g.row.P) c.args.blocks.now c.loop-block.parts.items _ c.loop-block.block-index c.block-item.result _ c.loop-block-test.true c.block-item.is
    c.loop-block.invariant c.in_ok-basis_part.ensures c.in_ok-push.ensures.items

pub returns : goal.returns
returns g c =
    let done : length c.args.blocks.now ≤ c.loop-block.block-index = omega arith in
    all-items (IsComplexPart false false g.row.P) c.args.blocks.now c.args.blocks.now c.loop-block.parts.items _ c.loop-block.block-index done refl c.loop-block.invariant c.from.ensures
