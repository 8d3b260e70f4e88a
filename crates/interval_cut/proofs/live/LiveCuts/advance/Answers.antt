use Rattle.std.proofs.Common.{ap, ap₂, sym, ◌∙◌}
use Rattle.interval_cut.{specs.Names.{LiveWalk, live_top}, proofs.LiveWalkLemmas.step-same}
use Rattle.interval_cut.proofs.live.LiveCuts.advance.Goals as goal

pub invariant_of-self : goal.invariant_of-self
invariant_of-self c =
    let a = c.self.inside in
    let s = step-same a.search.degree a.cuts c.advance_live.new.self c.advance_live.ensures.walk in
    record {
      top = s.1 ∙ c.self.invariant.top ∙ ap₂ live_top (sym c.advance_live.ensures.degree) (sym s.0);
      ready = c.advance_live.ensures.ready;
    }

pub returns-clause-values : goal.returns-clause-values
returns-clause-values c =
    (step-same c.self.inside.search.degree c.self.inside.cuts c.advance_live.new.self c.advance_live.ensures.walk).0 ∙ ap (λ (v : LiveWalk). v.walk.values) c.self.view_is
