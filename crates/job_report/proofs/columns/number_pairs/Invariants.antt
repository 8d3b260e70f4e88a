use Rattle.std.proofs.Common.{◌≡◌, map, flat_map}
use Rattle.signed_sum.specs.Names.{numbers_from}
use Rattle.job_report.proofs.columns.number_pairs.Given as goal

abbrev pub invariant-loop-i : goal.invariant-loop-i
invariant-loop-i l = l.pairs.items ≡ flat_map (λ i. map (λ j. (i, j)) (numbers_from 1 l.second)) (numbers_from 1 l.i)
