use Rattle.std.{proofs.Common.{◌≡◌, ◌++◌, flat_map}, specs.List.filter}
use Rattle.signed_sum.specs.Names.{numbers_from}
use Rattle.term_total.specs.Names.{is_live_line, lines_of_class}
use Rattle.term_total.proofs.live.add_lines_of_degrees.Given as goal

abbrev pub invariant-loop-i : goal.invariant-loop-i
invariant-loop-i l = l.found.items ≡ l.fn.found.items ++ filter (is_live_line l.p l.ranks) (flat_map (lines_of_class l.ranks l.a l.b) (numbers_from 1 l.i))
