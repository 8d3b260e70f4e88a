use Rattle.std.proofs.Common.{◌+◌, ◌≡◌, [], arith}
use Rattle.term_total.{specs.Names.{is_live_line, lines_of_degree}, proofs.LiveLemmas.parts-more}
use Rattle.term_total.proofs.live.lines.Goals as goal

pub loop-a-preserved : goal.loop-a-preserved
loop-a-preserved c =
    let a = c.loop-a.a in
    let ranks = c.args.ranks.now in
    let e : a ≡ 0 + a = omega arith in
    parts-more (is_live_line c.args.p ranks) (lines_of_degree ranks) 0 a a [] c.loop-a.found.items c.add_lines_of_degree.new.found.items c.loop-a.invariant e c.in_ok-add_lines_of_degree.ensures
