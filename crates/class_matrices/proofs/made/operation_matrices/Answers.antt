use Rattle.std.proofs.Common.{◌∙◌, lit<}
use Rattle.report_law.{specs.Names.blocks, proofs.Names.of-blocks}
use Rattle.class_matrices.proofs.ListLemmas.{item-among}
use Rattle.line_difference.proofs.PlanLemmas.{block-low, block-stored}
use Rattle.class_matrices.proofs.made.operation_matrices.Goals as goal

pub matrix-requires : goal.matrix-requires
matrix-requires g c =
    let p = g.row.P in
    let ranks = c.args.ranks.now in
    let m = item-among c.as_slice-block-items.result.now (blocks p ranks) c.loop-block.block-index _ c.loop-block-test.true (c.as_slice-block-items.ensures.value ∙ c.in_ok-live.ensures) in
    let live = of-blocks p ranks _ m in
    (lit< tt, (lit< tt, (c.requires.prime, (c.requires.of, (block-low ranks c.requires.few p _ m, (live.defined, (live.target, block-stored p c.args.table.now ranks c.requires.stored _ m)))))))
