use Rattle.std.proofs.Common.{◌+◌, ◌-◌, ℕ, [], ◌∷◌, ◌++◌, get_or, set, length, length-append, arith, sym, ap, ◌∙◌, refl, subst}
use Rattle.interval_cut.{specs.Names.{IsFitting, IsTaken, IsUnfit}, proofs.LiveFaceLemmas.{end-below, later-at, later-few, length-later, taken-end, taken-more, taken-short, taken-start, taken-unfit, value-room}}
use Rattle.interval_cut.proofs.live_search.dead_end.Goals as goal

pub loop-i-init : goal.loop-i-init
loop-i-init c =
    taken-start c.args.degree c.args.values.now (c.args.inner.now ++ (c.args.top ∷ [])) c.fill.new.self c.fill-2.new.self (length c.args.counts.now) (length c.args.nexts.now)
    (c.fill.ensures.after (λ y e. e)) (c.fill-2.ensures.after (λ y e. e)) c.requires.list.cut

pub bounds-counts-k : goal.bounds-counts-k
bounds-counts-k c =
    value-room c.args.values.now c.loop-i.i (length c.args.counts.now) (length c.loop-i.counts) c.requires.ready.surjection c.loop-i-test.true c.requires.ready.counts_has
    (omega (arith, c.loop-i.auto.counts, c.fill.ensures.len))

pub bounds-nexts-k : goal.bounds-nexts-k
bounds-nexts-k c =
    value-room c.args.values.now c.loop-i.i (length c.args.nexts.now) (length c.loop-i.nexts) c.requires.ready.surjection c.loop-i-test.true c.requires.ready.nexts_has
    (omega (arith, c.loop-i.auto.nexts, c.fill-2.ensures.len))

pub bounds-later-i : goal.bounds-later-i
bounds-later-i c = omega (arith, ap length c.requires.ready.later_is, length-later c.args.values.now, c.loop-i-test.true)

pub last_unfit-requires-clause-inside : goal.last_unfit-requires-clause-inside
last_unfit-requires-clause-inside c = omega (arith, c.end_of-end.ensures, end-below c.args.values.now 0 c.args.inner.now c.args.top c.loop-i.i c.requires.list.cut)

pub last_unfit-requires-clause-short : goal.last_unfit-requires-clause-short
last_unfit-requires-clause-short c =
    taken-short c.args.degree c.args.values.now (c.args.inner.now ++ (c.args.top ∷ [])) c.loop-i.i c.loop-i.start c.loop-i.counts c.loop-i.nexts c.loop-i.invariant c.loop-i-test.true
    (omega (arith, length-append c.args.inner.now (c.args.top ∷ []), c.requires.list.long))

pub last_unfit-requires-clause-few : goal.last_unfit-requires-clause-few
last_unfit-requires-clause-few c = later-few c.args.values.now c.args.later.now c.loop-i.i c.requires.ready.surjection c.requires.ready.later_is c.loop-i-test.true

pub returns-in-Some-clause-dead : goal.returns-in-Some-clause-dead
returns-in-Some-clause-dead c =
    let u = c.args.values.now in
    let k : ℕ = get_or u c.loop-i.i 0 in
    taken-unfit c.args.degree u (c.args.inner.now ++ (c.args.top ∷ [])) c.loop-i.i c.loop-i.start c.loop-i.counts c.loop-i.nexts c.loop-i.invariant c.loop-i-test.true
    (omega (arith, length-append c.args.inner.now (c.args.top ∷ []), c.requires.list.long)) c.args.top (get_or c.loop-i.counts k 0) (get_or c.loop-i.nexts k 0) (get_or c.args.later.now c.loop-i.i 0)
    refl refl (ap (λ x. get_or x c.loop-i.i 0) c.requires.ready.later_is ∙ later-at u c.loop-i.i c.loop-i-test.true) c.in-Some.last c.requires.ready.surjection
    (subst (λ e. IsUnfit c.args.degree c.args.top (get_or c.loop-i.counts k 0) (get_or c.loop-i.nexts k 0) (get_or c.args.later.now c.loop-i.i 0) c.loop-i.start e c.in-Some.last) c.end_of-end.ensures
    c.in-Some.ensures)

pub overflow_add-nexts : goal.overflow_add-nexts
overflow_add-nexts c = omega (arith, c.end_of-end.ensures, end-below c.args.values.now 0 c.args.inner.now c.args.top c.loop-i.i c.requires.list.cut, c.requires.list.low)

pub loop-i-preserved : goal.loop-i-preserved
loop-i-preserved c =
    let u = c.args.values.now in
    let k : ℕ = get_or u c.loop-i.i 0 in
    let p = c.args.inner.now ++ (c.args.top ∷ []) in
    subst (λ e. IsTaken c.args.degree u p (c.loop-i.i + 1) e (set c.loop-i.counts k (get_or c.loop-i.counts k 0 + (e - c.loop-i.start + 1))) (set c.loop-i.nexts k (e + 1))) (sym c.end_of-end.ensures)
    (taken-more c.args.degree u p c.loop-i.i c.loop-i.start c.loop-i.counts c.loop-i.nexts c.loop-i.invariant c.loop-i-test.true
    (omega (arith, length-append c.args.inner.now (c.args.top ∷ []), c.requires.list.long)) c.args.top (get_or c.loop-i.counts k 0) (get_or c.loop-i.nexts k 0) (get_or c.args.later.now c.loop-i.i 0)
    refl refl (ap (λ x. get_or x c.loop-i.i 0) c.requires.ready.later_is ∙ later-at u c.loop-i.i c.loop-i-test.true)
    (subst (λ e. IsFitting c.args.degree (get_or c.loop-i.counts k 0) (get_or c.loop-i.nexts k 0) (get_or c.args.later.now c.loop-i.i 0) c.loop-i.start e) c.end_of-end.ensures c.in-None.ensures)
    (value-room u c.loop-i.i (length c.args.counts.now) (length c.loop-i.counts) c.requires.ready.surjection c.loop-i-test.true c.requires.ready.counts_has
    (omega (arith, c.loop-i.auto.counts, c.fill.ensures.len)))
    (value-room u c.loop-i.i (length c.args.nexts.now) (length c.loop-i.nexts) c.requires.ready.surjection c.loop-i-test.true c.requires.ready.nexts_has
    (omega (arith, c.loop-i.auto.nexts, c.fill-2.ensures.len))))

pub returns-clause-dead : goal.returns-clause-dead
returns-clause-dead c =
    taken-end c.args.degree c.args.values.now (c.args.inner.now ++ (c.args.top ∷ [])) c.loop-i.i c.loop-i.start c.loop-i.counts c.loop-i.nexts c.requires.ready.surjection c.loop-i.invariant
    c.loop-i-test.false (omega (arith, length-append c.args.inner.now (c.args.top ∷ []), c.requires.list.long))

pub bounds-counts-k-in-None : goal.bounds-counts-k-in-None
bounds-counts-k-in-None c =
    value-room c.args.values.now c.loop-i.i (length c.args.counts.now) (length c.loop-i.counts) c.requires.ready.surjection c.loop-i-test.true c.requires.ready.counts_has
    (omega (arith, c.loop-i.auto.counts, c.fill.ensures.len))

pub bounds-counts-k-in-None-2 : goal.bounds-counts-k-in-None-2
bounds-counts-k-in-None-2 c =
    value-room c.args.values.now c.loop-i.i (length c.args.counts.now) (length c.loop-i.counts) c.requires.ready.surjection c.loop-i-test.true c.requires.ready.counts_has
    (omega (arith, c.loop-i.auto.counts, c.fill.ensures.len))

pub bounds-nexts-k-in-None : goal.bounds-nexts-k-in-None
bounds-nexts-k-in-None c =
    value-room c.args.values.now c.loop-i.i (length c.args.nexts.now) (length c.loop-i.nexts) c.requires.ready.surjection c.loop-i-test.true c.requires.ready.nexts_has
    (omega (arith, c.loop-i.auto.nexts, c.fill-2.ensures.len))
