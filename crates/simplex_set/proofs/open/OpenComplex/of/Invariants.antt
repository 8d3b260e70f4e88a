use Rattle.std.proofs.Common.{◌≡◌, take}
use Rattle.simplicial_law.specs.ListedSimplices.{simplices}
use Rattle.simplex_set.specs.InOrder.{in_order}
use Rattle.simplex_set.proofs.open.OpenComplex.of.Given as goal

abbrev pub invariant-loop-facet : goal.invariant-loop-facet
invariant-loop-facet l = in_order l.found.keys ≡ simplices (take l.facet-index l.fn.facets.items)
