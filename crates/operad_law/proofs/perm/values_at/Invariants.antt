use Rattle.std.proofs.Common.{◌≡◌, map, take}
use Rattle.signed_sum.specs.Names.{entry_at}
use Rattle.operad_law.proofs.perm.values_at.Given as goal

abbrev pub invariant-loop-value : goal.invariant-loop-value
invariant-loop-value l = l.values.items ≡ map (entry_at l.outer) (take l.value-index l.inner)
