use Rattle.std.proofs.{Common.{ap, ◌∙◌}, lemmas.List.with_items_is}
use Rattle.interval_cut.{specs.Names.stage_after, proofs.LiveWalkLemmas.{live-done, live-moved}}
use Rattle.interval_cut.proofs.cuts.Cuts.advance_live.Goals as goal

pub returns-then-moved-clause-walk : goal.returns-then-moved-clause-walk
returns-then-moved-clause-walk c =
    let a = c.self.inside in
    live-moved c.args.search.now.degree a.values.items c.as_slice.result.now a.top a.stage c.reached-self-inside.result a.inner.items c.as_mut_slice.result.now _ c.next-moved.new.inner c.args.self.now
    c.self.view_is c.self.invariant.long c.as_slice.ensures.value c.as_mut_slice.ensures.value (with_items_is a.inner c.next-moved.new.inner (c.next-moved.auto.inner ∙ c.as_mut_slice.ensures.len))
    (c.reached-self-inside.ensures ∙ ap stage_after c.if-moved.true) c.if-moved.ensures.first

pub returns-else-moved-clause-walk : goal.returns-else-moved-clause-walk
returns-else-moved-clause-walk c =
    let a = c.self.inside in
    live-done c.args.search.now.degree a.values.items c.as_slice.result.now a.top a.stage c.reached-self-inside.result a.inner.items c.as_mut_slice.result.now _ c.next-moved.new.inner c.args.self.now
    c.self.view_is c.self.invariant.long c.as_slice.ensures.value c.as_mut_slice.ensures.value (c.reached-self-inside.ensures ∙ ap stage_after c.if-moved.false) c.if-moved.ensures.first
