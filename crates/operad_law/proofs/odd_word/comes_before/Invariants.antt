use Rattle.std.proofs.Common.{◌≡◌, drop}
use Rattle.signed_sum.specs.Names.{stands_before}
use Rattle.operad_law.proofs.odd_word.comes_before.Given as goal

abbrev pub invariant-loop-z : goal.invariant-loop-z
invariant-loop-z l = stands_before (drop l.z-index l.word) l.y l.x ≡ stands_before l.word l.y l.x
