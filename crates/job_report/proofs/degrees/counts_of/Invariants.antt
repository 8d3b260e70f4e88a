use Rattle.std.proofs.Common.{◌≡◌, length, map}
use Rattle.signed_sum.specs.Names.{numbers_from}
use Rattle.complex_index.specs.Names.{level}
use Rattle.job_report.proofs.degrees.counts_of.Given as goal

abbrev pub invariant-loop-n : goal.invariant-loop-n
invariant-loop-n l = l.counts.items ≡ map (λ n. length (level l.index n)) (numbers_from 0 l.n)
