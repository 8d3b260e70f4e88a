use Rattle.std.proofs.Common.{◌≡◌, ◌++◌, take, flat_map}
use Rattle.comch_app.specs.Names.{spaced_number}
use Rattle.comch_app.proofs.may.add_values.Given as goal

abbrev pub invariant-loop-value : goal.invariant-loop-value
invariant-loop-value l = l.text ≡ l.initial.text ++ flat_map spaced_number (take l.value-index l.values)
