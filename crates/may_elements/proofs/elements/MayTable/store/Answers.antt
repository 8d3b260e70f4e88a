use Rattle.std.proofs.Common.{subst, sym, ap, ◌∙◌, IsSome}
use Rattle.may_elements.{specs.Stored.{AreLiveParts, Parts, stored_at}, proofs.StoredLemmas.{stored-more, stored-other, stored-there}}
use Rattle.may_elements.proofs.elements.MayTable.store.Goals as goal

pub invariant_of-self : goal.invariant_of-self
invariant_of-self g c = subst (AreLiveParts g.row.P) (sym c.in_err-push.ensures.items) c.self.invariant

pub invariant_of-self-2 : goal.invariant_of-self-2
invariant_of-self-2 g c =
    subst (AreLiveParts g.row.P) (sym c.in_ok-push.ensures.items) (stored-more g.row.P c.args.d c.args.q c.in_ok-part.part c.self.inside.stored.items c.self.invariant c.in_ok-part.ensures)

pub returns-clause-stored : goal.returns-clause-stored
returns-clause-stored g c =
    subst (λ (ts : Parts). IsSome (stored_at c.args.d c.args.q ts)) (sym c.in_ok-push.ensures.items) (stored-there c.args.d c.args.q c.in_ok-part.part c.self.inside.stored.items)

pub returns-clause-others : goal.returns-clause-others
returns-clause-others g c = λ k r n.
    ap (stored_at k r) c.in_ok-push.ensures.items ∙ stored-other k r c.args.d c.args.q c.in_ok-part.part c.self.inside.stored.items n ∙ ap (stored_at k r) c.self.view_is
