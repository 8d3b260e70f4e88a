use Rattle.simplex_set.{specs.InOrder.in_order, proofs.Sizes.AreFirst}
use Rattle.simplex_set.proofs.levels.levels_of.Given as goal

abbrev pub invariant-loop-degree : goal.invariant-loop-degree
invariant-loop-degree l = AreFirst (in_order l.set.keys) l.levels.items l.degree
