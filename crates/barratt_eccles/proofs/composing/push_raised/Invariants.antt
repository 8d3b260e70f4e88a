use Rattle.std.proofs.Common.{◌≡◌, ◌+◌, ◌++◌, map, take}
use Rattle.barratt_eccles.proofs.composing.push_raised.Given as goal

abbrev pub invariant-loop-value : goal.invariant-loop-value
invariant-loop-value l = l.values.items ≡ l.fn.values.items ++ map (λ y. y + l.by) (take l.value-index l.inner)
