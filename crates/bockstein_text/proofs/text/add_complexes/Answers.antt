use Rattle.std.proofs.Common.{List, subst, take_all, arith}
use Rattle.complex_file.specs.declared.block.ComplexBlock.{ComplexBlock}
use Rattle.job_report.{specs.Jobs.CanBeIndexed, proofs.Zips.each-item}
use Rattle.bockstein_text.{specs.Names.{Adds, AreBocksteins, bocksteins_text}, proofs.Added.{more_added, none_added}}
use Rattle.bockstein_text.proofs.text.add_complexes.Goals as goal

pub loop-block-init : goal.loop-block-init
loop-block-init g c = none_added bocksteins_text (AreBocksteins g.row.P) c.args.text.now

pub add_complex-requires : goal.add_complex-requires
add_complex-requires g c = record {
  prime = c.requires.prime;
  complex = each-item (λ (b : ComplexBlock). CanBeIndexed b.facets) c.args.blocks.now c.loop-block.block-index c.block-item.result c.loop-block-test.true c.block-item.is c.requires.complexes;
}

pub loop-block-preserved : goal.loop-block-preserved
loop-block-preserved g c =
    more_added bocksteins_text (AreBocksteins g.row.P) c.args.blocks.now c.loop-block.block-index c.block-item.result c.args.text.now c.loop-block.text c.add_complex.new.text c.loop-block-test.true c.block-item.is c.loop-block.invariant c.in_ok-add_complex.ensures

pub returns : goal.returns
returns g c =
    subst (λ (bs : List ComplexBlock). Adds bocksteins_text (AreBocksteins g.row.P) bs c.args.text.now c.loop-block.text) (take_all c.loop-block.block-index c.args.blocks.now (omega arith)) c.loop-block.invariant
