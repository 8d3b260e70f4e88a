use Rattle.std.proofs.Common.{take, pos}
use Rattle.signed_sum.specs.Names.{paired_behind, parity}
use Rattle.operad_law.specs.FormalSums.{IsPlusScaled}
use Rattle.operad_law.proofs.pair.add_behind.Given as goal

abbrev pub invariant-loop-right : goal.invariant-loop-right
invariant-loop-right g l = IsPlusScaled l.initial.sum (paired_behind (parity l.odd) l.left (take l.right-index l.terms)) (pos 1) l.sum
