use Rattle.std.proofs.Common.{◌+◌, ◌≡◌, arith}
use Rattle.term_total.{specs.Names.{is_live_line, lines_of_class}, proofs.LiveLemmas.parts-more}
use Rattle.term_total.proofs.live.add_lines_of_degrees.Goals as goal

pub loop-i-preserved : goal.loop-i-preserved
loop-i-preserved c =
    let i = c.loop-i.i in
    let ranks = c.args.ranks.now in
    let e : i + 1 ≡ 1 + i = omega arith in
    parts-more (is_live_line c.args.p ranks) (lines_of_class ranks c.args.a c.args.b) 1 i (i + 1) c.args.found.now.items c.loop-i.found.items c.add_lines_of_class.new.found.items c.loop-i.invariant e c.in_ok-add_lines_of_class.ensures
