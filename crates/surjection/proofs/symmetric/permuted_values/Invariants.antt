use Rattle.std.proofs.Common.{◌≡◌, map, take}
use Rattle.signed_sum.specs.Names.{entry_at}
use Rattle.surjection.proofs.symmetric.permuted_values.Given as goal

abbrev pub invariant-loop-value : goal.invariant-loop-value
invariant-loop-value l = l.moved.items ≡ map (entry_at l.tau) (take l.value-index l.values)
