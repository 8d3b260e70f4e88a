use Rattle.std.proofs.Common.{◌∙◌, ap, subst, sym, List, ℕ}
use Rattle.linear_law.{specs.Names.Each, proofs.Names.each_get_or}
use Rattle.term_total.{specs.Names.{IsLine, pair_lines}, proofs.ReadyLemmas.{each-line, no_line}}
use Rattle.term_total.proofs.plan.pair_row.Goals as goal

pub line_operations-requires-clause-line : goal.line_operations-requires-clause-line
line_operations-requires-clause-line c =
    let p = c.args.p in
    let x = c.args.pair.now in
    each_get_or (IsLine p) c.as_slice-line-items.result.now c.loop-line.line-index no_line c.loop-line-test.true
    (subst (Each (IsLine p)) (sym (c.as_slice-line-items.ensures.value ∙ c.in_ok-lines.ensures ∙ ap (λ (r : List ℕ). pair_lines p r x) c.as_slice-ranks.ensures)) (each-line p c.args.part.now.ranks c.requires.part.few x))
