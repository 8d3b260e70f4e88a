use Rattle.std.proofs.Common.{List, ℕ, sym, ap, ◌∙◌}
use Rattle.cycle_table.proofs.{Below.{Congruent_of, value_in}, CombinedLemmas.{combine_more, combined_none}}
use Rattle.cycle_table.proofs.combining.combine.Goals as goal

pub loop-entry-init : goal.loop-entry-init
loop-entry-init g c = λ y. Congruent_of (ap (λ (r : List (ℕ × ℕ)). value_in r y) c.new-pairs.ensures.items ∙ sym (combined_none 0 c.args.rows.now y))

pub loop-entry-preserved : goal.loop-entry-preserved
loop-entry-preserved g c =
    combine_more g.row.P c.args.rows.now c.args.coefficients.now c.loop-entry.entry-index c.entry-item.result c.loop-entry.pairs.items c.append_at.new.pairs.items c.entry-item.is c.loop-entry-test.true
    c.in_ok-append_at.ensures c.loop-entry.invariant
