use Rattle.std.proofs.Common.{◌+◌, ◌≡◌, [], arith, map}
use Rattle.report_law.specs.Names.{degrees}
use Rattle.term_total.{specs.Names.{is_live_product, product_of}, proofs.LiveLemmas.parts-more}
use Rattle.term_total.proofs.live.products.Goals as goal

pub loop-a-preserved : goal.loop-a-preserved
loop-a-preserved c =
    let a = c.loop-a.a in
    let ranks = c.args.ranks.now in
    let e : a ≡ 0 + a = omega arith in
    parts-more (is_live_product ranks) (λ x. map (product_of x) (degrees ranks)) 0 a a [] c.loop-a.found.items c.add_products.new.found.items c.loop-a.invariant e c.in_ok-add_products.ensures
