use Rattle.std.proofs.Common.{◌∷◌, [], drop, flat_map}
use Rattle.term_total.proofs.ChargeLemmas.{IsLeft}
use Rattle.term_total.proofs.charges.charge_all.Given as goal

abbrev pub invariant-loop-n : goal.invariant-loop-n
invariant-loop-n l = IsLeft l.initial.terms l.terms l.numbers (flat_map (λ n. n ∷ []) (drop l.n-index l.numbers))
