use Rattle.std.proofs.Common.{◌∙◌, ◌++◌, ◌∷◌, [], ap, sym, subst, length, arith, List, ℕ}
use Rattle.simplicial_law.{specs.Names.IsClosed, specs.ListedSimplices.simplices, proofs.Names.simplices_closed}
use Rattle.simplex_set.{specs.InOrder.in_order, proofs.AddingFaces.one_more, proofs.Ordered.length_in_order}
use Rattle.simplex_set.proofs.open.OpenComplex.with_facet.Goals as goal

pub add_facet-requires : goal.add_facet-requires
add_facet-requires c = subst IsClosed (sym c.self.invariant) (simplices_closed c.self.inside.facets.items)

pub returns-then-len-limit : goal.returns-then-len-limit
returns-then-len-limit c =
    omega (arith, c.len.ensures.len, length_in_order c.add_facet.new.set.keys c.len.ensures.unique, ap length (one_more c.args.self c.args.facet (in_order c.self.inside.found.keys) (in_order c.add_facet.new.set.keys) (c.self.invariant ∙ ap simplices c.self.view_is) c.in_ok-add_facet.ensures))

pub invariant_of-result : goal.invariant_of-result
invariant_of-result c =
    one_more c.self.inside.facets.items c.args.facet (in_order c.self.inside.found.keys) (in_order c.add_facet.new.set.keys) c.self.invariant c.in_ok-add_facet.ensures
    ∙ ap simplices (sym c.in_ok-push.ensures.items)

pub returns : goal.returns
returns c = (
  c.in_ok-push.ensures.items ∙ ap (λ (fs : List (List ℕ)). fs ++ c.args.facet ∷ []) c.self.view_is,
  omega (arith, c.len.ensures.len, length_in_order c.add_facet.new.set.keys c.len.ensures.unique, ap length (one_more c.args.self c.args.facet (in_order c.self.inside.found.keys) (in_order c.add_facet.new.set.keys) (c.self.invariant ∙ ap simplices c.self.view_is) c.in_ok-add_facet.ensures)),
)
