use Rattle.std.proofs.Common.{◌≡◌, ◌∙◌, List, ℕ, length, get_or, ap, arith, subst, sym, take, take_all}
use Rattle.simplicial_law.{specs.Names.IsClosed, specs.ListedSimplices.simplices, proofs.Names.simplices_closed}
use Rattle.simplex_set.{specs.InOrder.in_order, proofs.AddingFaces.{simplices_none, next_more}}
use Rattle.simplex_set.proofs.open.OpenComplex.of.Goals as goal

pub loop-facet-init : goal.loop-facet-init
loop-facet-init c = ap in_order c.new-found.ensures.empty ∙ simplices_none

pub add_facet-requires : goal.add_facet-requires
add_facet-requires c = subst IsClosed (sym c.loop-facet.invariant) (simplices_closed (take c.loop-facet.facet-index c.args.facets.items))

pub loop-facet-preserved : goal.loop-facet-preserved
loop-facet-preserved c =
    let same : c.as_slice-facet-items.result.now ≡ c.args.facets.items = c.as_slice-facet-items.ensures.value in
    next_more c.args.facets.items c.loop-facet.facet-index c.facet-item.result (in_order c.loop-facet.found.keys) (in_order c.add_facet.new.set.keys) (omega (arith, ap length same))
    (c.facet-item.is ∙ ap (λ (fs : List (List ℕ)). get_or fs c.loop-facet.facet-index c.facet-item.result) same) c.loop-facet.invariant c.in_ok-add_facet.ensures

pub invariant_of-result : goal.invariant_of-result
invariant_of-result c = c.loop-facet.invariant ∙ ap simplices (take_all c.loop-facet.facet-index c.args.facets.items (omega (arith, ap length c.as_slice-facet-items.ensures.value)))
