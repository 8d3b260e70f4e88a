use Rattle.std.proofs.Common.{◌∙◌, ap₂, get_or, subst}
use Rattle.linear_law.{specs.Names.Among, proofs.Names.{each_get_or, each_itself}}
use Rattle.may_elements.specs.Counted.{cut_off}
use Rattle.term_total.specs.Names.{live_total, Counted}
use Rattle.term_total.proofs.counts.CutCounts.found.Goals as goal

pub returns-then-count-degree : goal.returns-then-count-degree
returns-then-count-degree g c =
    let xs = c.as_slice-count-items.result.now in
    let none : Counted = record { element = 0; degree = 0; count = 0 } in
    let x = get_or xs c.loop-count.count-index none in
    c.args.self.now.counted x (subst (Among x) c.as_slice-count-items.ensures.value (each_get_or (λ (y : Counted). Among y xs) xs c.loop-count.count-index none c.loop-count-test.true (each_itself xs)))
    ∙ ap₂ (λ d q. cut_off (live_total g.row.P d q)) c.if-count-element.true c.if-count-degree.true
