use Rattle.std.proofs.Common.{◌+◌, ◌≡◌, ◌∙◌, arith, ap, sym, Vec, Global}
use Rattle.term_total.{specs.Names.{is_live_product, product_of}, proofs.LiveLemmas.{fails, items-more, passes}, proofs.live.add_products.Goals.{then-is_live_pair+in_ok-push, else-is_live_pair}}
use Rattle.term_total.proofs.live.add_products.Goals as goal
use Rattle.report.specs.declared.plan.Product.{Product}

pub loop-b-preserved : goal.loop-b-preserved
loop-b-preserved c =
    let b = c.loop-b.b in
    let x = product_of c.args.a b in
    let T = is_live_product c.args.ranks.now in
    let e : b ≡ 0 + b = omega arith in
    let found = c.loop-b.found.items in
    elim c.if-is_live_pair.branch [
      | then-is_live_pair+in_ok-push w ↦
          items-more T (product_of c.args.a) 0 b b c.args.found.now.items found c.if-is_live_pair.found.items c.loop-b.invariant e
          (ap (λ (v : Vec Product Global). v.items) w.found-is ∙ passes T x found w.push.new.self.items (sym c.is_live_pair.ensures ∙ w.if-is_live_pair.true) w.in_ok-push.ensures.items)
      | else-is_live_pair w ↦
          items-more T (product_of c.args.a) 0 b b c.args.found.now.items found c.if-is_live_pair.found.items c.loop-b.invariant e
          (ap (λ (v : Vec Product Global). v.items) w.found-is ∙ fails T x found (sym c.is_live_pair.ensures ∙ w.if-is_live_pair.false))
    ]
