use Rattle.std.proofs.{Common.{arith, get_or, lit<, subst, take_all}, lemmas.List.get_or_default}
use Rattle.linear_law.{specs.Names.Each, proofs.Names.each_get_or}
use Rattle.term_total.{specs.Names.{CanBeMade, IsReady, IsThere}, proofs.ReadyLemmas.no_applied, proofs.StoreLemmas.{done-more, keeps-store, ready-kept}}
use Rattle.term_total.proofs.parts.store_operations.Goals as goal

pub loop-operation-init : goal.loop-operation-init
loop-operation-init g c = (tt, λ d q h. h)

pub store-requires : goal.store-requires
store-requires g c =
    let made = each_get_or (IsReady g.row.P (λ d q. CanBeMade g.row.P d)) c.args.operations.now c.loop-operation.operation-index no_applied c.loop-operation-test.true c.requires.made in
    (lit< tt, (c.requires.prime, (made.there.0, (made.low, made.there.1))))

pub loop-operation-preserved : goal.loop-operation-preserved
loop-operation-preserved g c =
    let p = g.row.P in
    let xs = c.args.operations.now in
    let i = c.loop-operation.operation-index in
    let x = get_or xs i no_applied in
    let here = c.loop-operation-test.true in
    let made = each_get_or (IsReady p (λ d q. CanBeMade p d)) xs i no_applied here c.requires.made in
    let old = c.loop-operation.table in
    let new = c.store.new.self in
    let keeps = keeps-store old new x.element x.degree c.in_ok-store.ensures.stored c.in_ok-store.ensures.others in (
      done-more (IsReady p (IsThere old)) (IsReady p (IsThere new)) xs i x here (get_or_default xs i no_applied x here) (ready-kept p old new keeps)
          (record { low = made.low; most = made.most; there = c.in_ok-store.ensures.stored }) c.loop-operation.invariant.0,
      λ d q h. keeps d q (c.loop-operation.invariant.1 d q h),
    )

pub returns-clause-stored : goal.returns-clause-stored
returns-clause-stored g c = subst (Each (IsReady g.row.P (IsThere c.loop-operation.table))) (take_all c.loop-operation.operation-index c.args.operations.now (omega (arith, c.loop-operation-test.false))) c.loop-operation.invariant.0

pub returns-clause-kept : goal.returns-clause-kept
returns-clause-kept g c = c.loop-operation.invariant.1
