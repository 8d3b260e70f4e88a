use Rattle.std.proofs.Common.{◌-◌}
use Rattle.complex_index.specs.Names.{level}
use Rattle.may_steenrod.proofs.BeginningLemmas.{IsSplit}
use Rattle.may_steenrod.proofs.product.first_from.Given as goal

abbrev pub invariant-loop-low : goal.invariant-loop-low
invariant-loop-low l = IsSplit (level l.index l.n) l.vertices l.low l.high

abbrev pub decreases-loop-low : goal.decreases-loop-low
decreases-loop-low l = l.high - l.low
