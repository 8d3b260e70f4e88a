use Rattle.std.proofs.Common.{◌∙◌, ap, sym}
use Rattle.simplicial_law.specs.ListedSimplices.{simplices}
use Rattle.simplex_set.{specs.InOrder.in_order, proofs.AddingFaces.simplices_none}
use Rattle.simplex_set.proofs.open.OpenComplex.new.Goals as goal

pub invariant_of-result : goal.invariant_of-result
invariant_of-result c = ap in_order c.new-2.ensures.empty ∙ simplices_none ∙ ap simplices (sym c.new.ensures.items)
