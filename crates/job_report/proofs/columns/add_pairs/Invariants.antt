use Rattle.std.proofs.Common.{◌≡◌, ◌++◌, map}
use Rattle.signed_sum.specs.Names.{numbers_from}
use Rattle.job_report.proofs.columns.add_pairs.Given as goal

abbrev pub invariant-loop-j : goal.invariant-loop-j
invariant-loop-j l = l.pairs.items ≡ l.fn.pairs.items ++ map (λ j. (l.i, j)) (numbers_from 1 l.j)
