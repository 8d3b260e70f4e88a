use Rattle.std.proofs.Common.{◌≡◌, take}
use Rattle.composition_law.specs.Tuples.{inserted}
use Rattle.barratt_eccles.proofs.composing.composed_entry.Given as goal

abbrev pub invariant-loop-value : goal.invariant-loop-value
invariant-loop-value l = l.values.items ≡ inserted l.k (take l.value-index l.value-items) l.inner
