use Rattle.std.{proofs.Common.{◌+◌, sym, ◌∙◌, ap}, specs.List.filter}
use Rattle.count_check.{specs.LineGroups.is_live_number, proofs.LiveLemmas.{all_taken, kept, left}, proofs.lines.live_numbers.Goals.{then-is_live+in_ok-push, else-is_live}}
use Rattle.count_check.proofs.lines.live_numbers.Goals as goal

pub loop-n-preserved : goal.loop-n-preserved
loop-n-preserved c =
    let p = is_live_number c.args.p c.args.ranks.now c.args.a c.args.b in
    let m = c.args.a + c.args.b + 1 in
    let n = c.loop-n.n in
    elim c.if-is_live.branch [
      | then-is_live+in_ok-push w ↦ kept p m n c.loop-n.found.items c.if-is_live.found.items c.loop-n-test.true (sym c.is_live.ensures ∙ w.if-is_live.true) c.loop-n.invariant (ap (λ v. v.items) w.found-is ∙ w.in_ok-push.ensures.items)
      | else-is_live w ↦ ap (λ v. v.items) w.found-is ∙ left p m n c.loop-n.found.items c.loop-n-test.true (sym c.is_live.ensures ∙ w.if-is_live.false) c.loop-n.invariant
    ]

pub returns : goal.returns
returns c = c.loop-n.invariant ∙ ap (filter (is_live_number c.args.p c.args.ranks.now c.args.a c.args.b)) (all_taken (c.args.a + c.args.b + 1) c.loop-n.n c.loop-n-test.false)
