use Rattle.std.proofs.Common.{◌≡◌, ◌==◌, take, drop}
use Rattle.signed_sum.specs.Names.{occurs}
use Rattle.operad_law.specs.Refusals.{first_place_from, repeated_place}
use Rattle.operad_law.proofs.odd_word.first_repeated.Given as goal

abbrev pub invariant-loop-i : goal.invariant-loop-i
invariant-loop-i l = first_place_from (λ before v. occurs v before == 1) (take l.i l.symbols) (drop l.i l.symbols) ≡ repeated_place l.symbols
