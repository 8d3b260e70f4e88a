use Rattle.std.{proofs.Common.{◌≡◌, ◌++◌, map}, specs.List.filter}
use Rattle.signed_sum.specs.Names.{numbers_from}
use Rattle.term_total.specs.Names.{is_class_pair, product_of}
use Rattle.term_total.proofs.live.add_class_pairs.Given as goal

abbrev pub invariant-loop-b : goal.invariant-loop-b
invariant-loop-b l = l.found.items ≡ l.fn.found.items ++ filter (is_class_pair l.ranks) (map (product_of l.a) (numbers_from 0 l.b))
