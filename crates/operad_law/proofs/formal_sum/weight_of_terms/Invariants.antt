use Rattle.std.proofs.Common.{◌≡◌, ◌+◌, drop}
use Rattle.signed_sum.specs.Names.{weight_of}
use Rattle.operad_law.proofs.formal_sum.weight_of_terms.Given as goal

abbrev pub invariant-loop-t : goal.invariant-loop-t
invariant-loop-t g l = l.sum + weight_of (drop l.t-index l.terms) ≡ weight_of l.terms
