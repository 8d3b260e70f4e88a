use Rattle.std.proofs.Common.{◌≡◌, max, drop}
use Rattle.surjection_law.specs.Names.{arity}
use Rattle.surjection.proofs.surj.greatest.Given as goal

abbrev pub invariant-loop-value : goal.invariant-loop-value
invariant-loop-value l = max l.most (arity (drop l.value-index l.values)) ≡ arity l.values
