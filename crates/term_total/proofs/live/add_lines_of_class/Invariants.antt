use Rattle.std.{proofs.Common.{◌≡◌, ◌++◌, flat_map}, specs.List.filter}
use Rattle.signed_sum.specs.Names.{numbers_from}
use Rattle.report_law.specs.Names.{lines_of_pair}
use Rattle.term_total.specs.Names.{is_live_line}
use Rattle.term_total.proofs.live.add_lines_of_class.Given as goal

abbrev pub invariant-loop-j : goal.invariant-loop-j
invariant-loop-j l = l.found.items ≡ l.fn.found.items ++ filter (is_live_line l.p l.ranks) (flat_map (lines_of_pair l.a l.b l.i) (numbers_from 1 l.j))
