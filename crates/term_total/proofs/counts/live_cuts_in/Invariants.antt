use Rattle.std.proofs.Common.{drop}
use Rattle.linear_law.specs.Names.{sum_over}
use Rattle.interval_cut.specs.Names.{counted_live}
use Rattle.term_total.proofs.ChargeLemmas.{IsSummed}
use Rattle.term_total.proofs.counts.live_cuts_in.Given as goal

abbrev pub invariant-loop-k : goal.invariant-loop-k
invariant-loop-k l = IsSummed (sum_over (λ t. counted_live l.q t.0) l.sum) (sum_over (λ t. counted_live l.q t.0) (drop l.k l.sum)) l.count
