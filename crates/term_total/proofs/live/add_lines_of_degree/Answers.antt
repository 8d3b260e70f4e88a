use Rattle.std.proofs.Common.{◌+◌, ◌≡◌, arith}
use Rattle.term_total.{specs.Names.{is_live_line, lines_of_degrees}, proofs.LiveLemmas.parts-more}
use Rattle.term_total.proofs.live.add_lines_of_degree.Goals as goal

pub loop-b-preserved : goal.loop-b-preserved
loop-b-preserved c =
    let b = c.loop-b.b in
    let ranks = c.args.ranks.now in
    let e : b ≡ 0 + b = omega arith in
    parts-more (is_live_line c.args.p ranks) (lines_of_degrees ranks c.args.a) 0 b b c.args.found.now.items c.loop-b.found.items c.add_lines_of_degrees.new.found.items c.loop-b.invariant e c.in_ok-add_lines_of_degrees.ensures
