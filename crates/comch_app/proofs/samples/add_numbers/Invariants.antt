use Rattle.std.proofs.Common.{◌≡◌, ◌++◌, take, flat_map}
use Rattle.comch_app.specs.Names.{spaced_number}
use Rattle.comch_app.proofs.samples.add_numbers.Given as goal

abbrev pub invariant-loop-n : goal.invariant-loop-n
invariant-loop-n l = l.text ≡ l.initial.text ++ flat_map spaced_number (take l.n-index l.numbers)
