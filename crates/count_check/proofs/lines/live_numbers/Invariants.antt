use Rattle.std.{proofs.Common.{◌≡◌, ◌+◌, take}, specs.List.filter}
use Rattle.signed_sum.specs.Names.{numbers_from}
use Rattle.count_check.specs.LineGroups.{is_live_number}
use Rattle.count_check.proofs.lines.live_numbers.Given as goal

abbrev pub invariant-loop-n : goal.invariant-loop-n
invariant-loop-n l = l.found.items ≡ filter (is_live_number l.p l.ranks l.a l.b) (take l.n (numbers_from 0 (l.a + l.b + 1)))
