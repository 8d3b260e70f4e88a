use Rattle.std.proofs.Common.{arith, lit<, subst, sym, take_all}
use Rattle.linear_law.{specs.Names.Each, proofs.Names.each_get_or}
use Rattle.term_total.{specs.Names.{Addend, AreReady, CanBeMade, IsReady, IsThere}, proofs.StoreLemmas.{done-more, row-kept}}
use Rattle.term_total.proofs.parts.store_rows.Goals as goal

pub loop-row-init : goal.loop-row-init
loop-row-init g c = (tt, λ d q h. h)

pub store_addends-requires : goal.store_addends-requires
store_addends-requires g c =
    let Made = AreReady g.row.P (λ d q. CanBeMade g.row.P d) in (
      lit< tt,
      (
        c.requires.prime,
        subst (Each (λ (y : Addend). Each (IsReady g.row.P (λ d q. CanBeMade g.row.P d)) y.operations)) (sym c.as_slice.ensures)
            (subst Made (sym c.row-item.is) (each_get_or Made c.args.rows.now c.loop-row.row-index c.row-item.result c.loop-row-test.true c.requires.made)),
      ),
    )

pub loop-row-preserved : goal.loop-row-preserved
loop-row-preserved g c =
    let old = c.loop-row.table in
    let new = c.store_addends.new.table in
    let keeps = c.in_ok-store_addends.ensures.kept in (
      done-more (AreReady g.row.P (IsThere old)) (AreReady g.row.P (IsThere new)) c.args.rows.now c.loop-row.row-index c.row-item.result c.loop-row-test.true c.row-item.is (row-kept g.row.P old new keeps)
          (subst (Each (λ (y : Addend). Each (IsReady g.row.P (IsThere new)) y.operations)) c.as_slice.ensures c.in_ok-store_addends.ensures.stored) c.loop-row.invariant.0,
      λ d q h. keeps d q (c.loop-row.invariant.1 d q h),
    )

pub returns-clause-stored : goal.returns-clause-stored
returns-clause-stored g c = subst (Each (AreReady g.row.P (IsThere c.loop-row.table))) (take_all c.loop-row.row-index c.args.rows.now (omega (arith, c.loop-row-test.false))) c.loop-row.invariant.0

pub returns-clause-kept : goal.returns-clause-kept
returns-clause-kept g c = c.loop-row.invariant.1
