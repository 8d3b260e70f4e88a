use Rattle.std.proofs.Common.{◌++◌, ◌∙◌, ap, subst, sym, arith, refl, flat_map, length, get_or}
use Rattle.linear_law.{specs.Names.Each, proofs.Names.each_push}
use Rattle.count_check.{specs.declared.lines.LineGroup.LineGroup, specs.LineGroups.{IsSmallGroup, group_lines, pair_lines}, proofs.LiveLemmas.{Grows, all_taken, grown, grown_small}}
use Rattle.count_check.proofs.lines.add_groups.Goals as goal

pub loop-b-preserved : goal.loop-b-preserved
loop-b-preserved c =
    let p = c.args.p in
    let ranks = c.args.ranks.now in
    let a = c.args.a in
    let b = c.loop-b.b in
    let g : LineGroup = record { a = a; b = b; first = c.rank_at.result; second = c.rank_at-in-loop-b.result; numbers = c.in_ok-numbers.numbers } in
    let grows : Grows p ranks a b g = record { a_is = refl; b_is = refl; first_is = c.rank_at.ensures ∙ ap (λ n. get_or ranks n 0) c.from.ensures; second_is = c.rank_at-in-loop-b.ensures ∙ ap (λ n. get_or ranks n 0) c.from-in-loop-b.ensures; numbers_are = c.in_ok-numbers.ensures } in
    record {
      counted = subst (Each IsSmallGroup) (sym c.in_ok-push.ensures.items) (each_push IsSmallGroup c.loop-b.groups.items g c.loop-b.invariant.counted
          (grown_small p ranks a b g c.requires.small (let f = c.requires.few in let i = c.requires.inside in omega (arith, f, i)) (let f = c.requires.few in let i = c.loop-b-test.true in omega (arith, f, i)) grows));
      lines = grown p ranks a b g c.args.groups.now.items c.loop-b.groups.items c.push.new.self.items c.loop-b-test.true grows c.loop-b.invariant.lines c.in_ok-push.ensures.items;
    }

pub returns-clause-lines : goal.returns-clause-lines
returns-clause-lines c =
    let ranks = c.args.ranks.now in
    c.loop-b.invariant.lines ∙ ap (λ ns. flat_map group_lines c.args.groups.now.items ++ flat_map (pair_lines c.args.p ranks c.args.a) ns) (all_taken (length ranks) c.loop-b.b c.loop-b-test.false)
