use Rattle.std.proofs.Common.{◌++◌, ◌∙◌, ap, sym, flat_map, length}
use Rattle.count_check.{specs.LineGroups.lines_from, proofs.LiveLemmas.{all_live, all_taken, flat_taken}}
use Rattle.count_check.proofs.lines.line_groups.Goals as goal

pub loop-a-preserved : goal.loop-a-preserved
loop-a-preserved c = record {
  counted = c.in_ok-add_groups.ensures.counted;
  lines = c.in_ok-add_groups.ensures.lines ∙ ap (λ ls. ls ++ lines_from c.args.p c.args.ranks.now c.loop-a.a) c.loop-a.invariant.lines ∙ sym (flat_taken (lines_from c.args.p c.args.ranks.now) (length c.args.ranks.now) c.loop-a.a c.loop-a-test.true);
}

pub returns-clause-lines : goal.returns-clause-lines
returns-clause-lines c =
    c.loop-a.invariant.lines ∙ ap (flat_map (lines_from c.args.p c.args.ranks.now)) (all_taken (length c.args.ranks.now) c.loop-a.a c.loop-a-test.false) ∙ all_live c.args.p c.args.ranks.now
