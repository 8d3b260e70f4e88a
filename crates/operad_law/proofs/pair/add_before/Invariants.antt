use Rattle.std.proofs.Common.{take, pos}
use Rattle.signed_sum.specs.Names.{paired_before}
use Rattle.operad_law.specs.FormalSums.{IsPlusScaled}
use Rattle.operad_law.proofs.pair.add_before.Given as goal

abbrev pub invariant-loop-left : goal.invariant-loop-left
invariant-loop-left g l = IsPlusScaled l.initial.sum (paired_before l.right (take l.left-index l.terms)) (pos 1) l.sum
