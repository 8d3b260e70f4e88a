use Rattle.std.{proofs.Common.{◌≡◌, flat_map}, specs.List.filter}
use Rattle.signed_sum.specs.Names.{numbers_from}
use Rattle.term_total.specs.Names.{is_live_line, lines_of_degree}
use Rattle.term_total.proofs.live.lines.Given as goal

abbrev pub invariant-loop-a : goal.invariant-loop-a
invariant-loop-a l = l.found.items ≡ filter (is_live_line l.p l.ranks) (flat_map (lines_of_degree l.ranks) (numbers_from 0 l.a))
