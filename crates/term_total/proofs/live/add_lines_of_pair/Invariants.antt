use Rattle.std.{proofs.Common.{◌≡◌, ◌++◌, map}, specs.List.filter}
use Rattle.signed_sum.specs.Names.{numbers_from}
use Rattle.term_total.specs.Names.{is_live_line, line_of}
use Rattle.term_total.proofs.live.add_lines_of_pair.Given as goal

abbrev pub invariant-loop-n : goal.invariant-loop-n
invariant-loop-n l = l.found.items ≡ l.fn.found.items ++ filter (is_live_line l.p l.ranks) (map (line_of l.a l.b l.i l.j) (numbers_from 0 l.n))
