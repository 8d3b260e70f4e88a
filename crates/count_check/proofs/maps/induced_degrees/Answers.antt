use Rattle.std.{proofs.Common.{sym, ◌∙◌, ap, length}, specs.List.filter}
use Rattle.count_check.{specs.Columns.is_induced, proofs.LiveLemmas.{all_taken, kept, left}, proofs.maps.induced_degrees.Goals.{then-is_shared+in_ok-push, else-is_shared}}
use Rattle.count_check.proofs.maps.induced_degrees.Goals as goal

pub loop-q-preserved : goal.loop-q-preserved
loop-q-preserved c =
    let p = is_induced c.args.from.now c.args.to.now in
    let m = length c.args.from.now in
    let q = c.loop-q.q in
    elim c.if-is_shared.branch [
      | then-is_shared+in_ok-push w ↦ kept p m q c.loop-q.found.items c.if-is_shared.found.items c.loop-q-test.true (sym c.is_shared.ensures ∙ w.if-is_shared.true) c.loop-q.invariant (ap (λ v. v.items) w.found-is ∙ w.in_ok-push.ensures.items)
      | else-is_shared w ↦ ap (λ v. v.items) w.found-is ∙ left p m q c.loop-q.found.items c.loop-q-test.true (sym c.is_shared.ensures ∙ w.if-is_shared.false) c.loop-q.invariant
    ]

pub returns : goal.returns
returns c = c.loop-q.invariant ∙ ap (filter (is_induced c.args.from.now c.args.to.now)) (all_taken (length c.args.from.now) c.loop-q.q c.loop-q-test.false)
