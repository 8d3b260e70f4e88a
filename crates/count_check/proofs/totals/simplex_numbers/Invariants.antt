use Rattle.std.proofs.Common.{◌≡◌, length, map, take}
use Rattle.signed_sum.specs.Names.{numbers_from}
use Rattle.complex_index.specs.Names.{level}
use Rattle.count_check.proofs.totals.simplex_numbers.Given as goal

abbrev pub invariant-loop-n : goal.invariant-loop-n
invariant-loop-n l = l.numbers.items ≡ map (λ n. length (level l.index n)) (take l.n (numbers_from 0 l.degrees))
