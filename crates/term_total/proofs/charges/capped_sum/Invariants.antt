use Rattle.std.proofs.Common.{drop}
use Rattle.linear_law.specs.Names.{sum_over}
use Rattle.term_total.{specs.Names.sum_of, proofs.ChargeLemmas.IsSummed}
use Rattle.term_total.proofs.charges.capped_sum.Given as goal

abbrev pub invariant-loop-n : goal.invariant-loop-n
invariant-loop-n l = IsSummed (sum_of l.numbers) (sum_over (λ n. n) (drop l.n-index l.numbers)) l.sum
