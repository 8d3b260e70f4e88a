use Rattle.std.proofs.Common.{◌≡◌, ◌++◌, flat_map}
use Rattle.signed_sum.specs.Names.{numbers_from}
use Rattle.term_total.specs.Names.{live_blocks, operations_with}
use Rattle.term_total.proofs.live.add_blocks.Given as goal

abbrev pub invariant-loop-k : goal.invariant-loop-k
invariant-loop-k l = l.found.items ≡ l.fn.found.items ++ live_blocks l.p l.ranks l.q (flat_map operations_with (numbers_from 0 l.k))
