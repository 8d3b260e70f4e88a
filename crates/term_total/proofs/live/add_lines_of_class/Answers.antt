use Rattle.std.proofs.Common.{◌+◌, ◌≡◌, arith}
use Rattle.report_law.specs.Names.{lines_of_pair}
use Rattle.term_total.{specs.Names.is_live_line, proofs.LiveLemmas.parts-more}
use Rattle.term_total.proofs.live.add_lines_of_class.Goals as goal

pub loop-j-preserved : goal.loop-j-preserved
loop-j-preserved c =
    let j = c.loop-j.j in
    let ranks = c.args.ranks.now in
    let e : j + 1 ≡ 1 + j = omega arith in
    parts-more (is_live_line c.args.p ranks) (lines_of_pair c.args.a c.args.b c.args.i) 1 j (j + 1) c.args.found.now.items c.loop-j.found.items c.add_lines_of_pair.new.found.items c.loop-j.invariant e c.in_ok-add_lines_of_pair.ensures
