use Rattle.std.proofs.Common.{◌∙◌, ap, subst, sym}
use Rattle.linear_law.{specs.Names.Each, proofs.Names.each_get_or}
use Rattle.report_law.specs.Names.{blocks}
use Rattle.term_total.{specs.Names.IsBlock, proofs.ReadyLemmas.{each-block, no_block}}
use Rattle.term_total.proofs.plan.block_row.Goals as goal

pub block_addend-requires-clause-block : goal.block_addend-requires-clause-block
block_addend-requires-clause-block c =
    each_get_or (IsBlock c.args.p) c.as_slice-block-items.result.now c.loop-block.block-index no_block c.loop-block-test.true
    (subst (Each (IsBlock c.args.p)) (sym (c.as_slice-block-items.ensures.value ∙ c.in_ok-blocks.ensures ∙ ap (blocks c.args.p) c.as_slice.ensures)) (each-block c.args.p c.args.part.now.ranks c.requires.part.few))
