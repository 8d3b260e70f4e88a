use Rattle.std.proofs.Common.{◌≡◌, ◌++◌, drop, flat_map}
use Rattle.term_total.specs.Names.{line_operations, pair_operations}
use Rattle.term_total.proofs.plan.line_operations.Given as goal

abbrev pub invariant-loop-pair : goal.invariant-loop-pair
invariant-loop-pair l = l.found.items ++ flat_map (pair_operations l.p l.simplices l.line) (drop l.pair-index l.pair-items) ≡ line_operations l.p l.simplices l.line
