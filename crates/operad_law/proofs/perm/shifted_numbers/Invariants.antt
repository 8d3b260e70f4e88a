use Rattle.std.proofs.Common.{◌≡◌, map}
use Rattle.signed_sum.specs.Names.{numbers_from}
use Rattle.operad_law.proofs.PermLemmas.{shifted}
use Rattle.operad_law.proofs.perm.shifted_numbers.Given as goal

abbrev pub invariant-loop-i : goal.invariant-loop-i
invariant-loop-i l = l.values.items ≡ map (shifted l.r l.by) (numbers_from 0 l.i)
