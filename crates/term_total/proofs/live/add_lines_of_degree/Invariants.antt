use Rattle.std.{proofs.Common.{◌≡◌, ◌++◌, flat_map}, specs.List.filter}
use Rattle.signed_sum.specs.Names.{numbers_from}
use Rattle.term_total.specs.Names.{is_live_line, lines_of_degrees}
use Rattle.term_total.proofs.live.add_lines_of_degree.Given as goal

abbrev pub invariant-loop-b : goal.invariant-loop-b
invariant-loop-b l = l.found.items ≡ l.fn.found.items ++ filter (is_live_line l.p l.ranks) (flat_map (lines_of_degrees l.ranks l.a) (numbers_from 0 l.b))
