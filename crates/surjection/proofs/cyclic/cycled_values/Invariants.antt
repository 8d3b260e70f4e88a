use Rattle.std.proofs.Common.{◌≡◌, map, take}
use Rattle.signed_sum.specs.Names.{cycle}
use Rattle.surjection.proofs.cyclic.cycled_values.Given as goal

abbrev pub invariant-loop-value : goal.invariant-loop-value
invariant-loop-value l = l.moved.items ≡ map (cycle l.most) (take l.value-index l.values)
