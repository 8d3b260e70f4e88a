use Rattle.std.proofs.Common.{[], ◌∷◌, ◌++◌, ◌∙◌, arith, subst}
use Rattle.interval_cut.{specs.Names.{IsDeadEnd, is_live_list}, proofs.LiveListLemmas.{dead_end-here, search-more}}
use Rattle.interval_cut.proofs.live_search.Search.next.Goals as goal

pub loop-more-preserved : goal.loop-more-preserved
loop-more-preserved c =
    let q = c.args.self.now.degree in
    let u = c.args.values.now in
    let inv = c.loop-more.invariant in
    let d = subst (λ m. IsDeadEnd m u c.args.top (c.loop-more.inner ++ (c.args.top ∷ [])) c.in-Some.dead.interval c.in-Some.dead.last) inv.2 c.in-Some.ensures.dead in
    let m =
    search-more (is_live_list q u c.args.top) c.loop-more.more c.args.top c.loop-more.inner c.leave-more.result c.leave-more.new.inner c.loop-more-test.true
    (dead_end-here q u c.args.top c.loop-more.inner c.in-Some.dead.interval c.in-Some.dead.last inv.0.list.long d) (c.leave-more.ensures.lists q u inv.0.list.long d) in (
      record {
        same = m.0 ∙ inv.0.same;
        list = record {
          low = inv.0.list.low;
          long = omega (arith, inv.0.list.long, c.leave-more.auto.inner);
          cut = c.leave-more.ensures.cut q u inv.0.list.long d inv.0.list.cut;
        };
      },
      c.dead_end.ensures.ready,
      c.dead_end.ensures.degree ∙ inv.2,
    )
