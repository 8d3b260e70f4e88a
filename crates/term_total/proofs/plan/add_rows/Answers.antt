use Rattle.std.proofs.Common.{◌∙◌, ◌+◌, ◌≤◌, ap, subst, sym}
use Rattle.linear_law.{specs.Names.Each, proofs.Names.each_get_or}
use Rattle.report.specs.declared.plan.Product.{Product}
use Rattle.term_total.{specs.Names.class_pairs, proofs.ReadyLemmas.{each-pair, no_product}}
use Rattle.term_total.proofs.plan.add_rows.Goals as goal

pub pair_row-requires-clause-low : goal.pair_row-requires-clause-low
pair_row-requires-clause-low c =
    let Low = λ (x : Product). x.a + x.b ≤ 30 in
    each_get_or Low c.as_slice-pair-items.result.now c.loop-pair.pair-index no_product c.loop-pair-test.true
    (subst (Each Low) (sym (c.as_slice-pair-items.ensures.value ∙ c.in_ok-pairs.ensures ∙ ap class_pairs c.as_slice.ensures)) (each-pair c.args.p c.args.part.now.ranks c.requires.part.few))
