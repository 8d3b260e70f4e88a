use Rattle.std.proofs.Common.{◌≡◌, ◌+◌, ◌++◌, take}
use Rattle.signed_sum.specs.Names.{numbers_from}
use Rattle.interval_cut.proofs.faces.write_numbers.Given as goal

abbrev pub invariant-loop-k : goal.invariant-loop-k
invariant-loop-k l = take (l.at + l.k) l.places ≡ take l.at l.initial.places ++ numbers_from l.first l.k
