use Rattle.std.proofs.Common.{◌∙◌, lit<}
use Rattle.report_law.specs.Names.{products}
use Rattle.class_matrices.proofs.ListLemmas.{item-among}
use Rattle.line_difference.proofs.PlanLemmas.{product-low}
use Rattle.class_matrices.proofs.made.product_matrices.Goals as goal

pub ring-requires : goal.ring-requires
ring-requires g c =
    let ranks = c.args.ranks.now in
    let m = item-among c.as_slice-product-items.result.now (products ranks) c.loop-product.product-index _ c.loop-product-test.true (c.as_slice-product-items.ensures.value ∙ c.in_ok-live.ensures) in
    let k = product-low ranks c.requires.few _ m in
    (lit< tt, (c.requires.prime, (c.requires.of, (k.0, k.1))))
