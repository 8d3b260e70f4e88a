use Rattle.std.proofs.Common.{arith, lit<, subst, sym, take_all}
use Rattle.linear_law.{specs.Names.Each, proofs.Names.each_get_or}
use Rattle.term_total.{specs.Names.{Addend, CanBeMade, IsReady, IsThere}, proofs.StoreLemmas.{done-more, addend-kept}}
use Rattle.term_total.proofs.parts.store_addends.Goals as goal

pub loop-addend-init : goal.loop-addend-init
loop-addend-init g c = (tt, λ d q h. h)

pub store_operations-requires : goal.store_operations-requires
store_operations-requires g c =
    let Made = λ (y : Addend). Each (IsReady g.row.P (λ d q. CanBeMade g.row.P d)) y.operations in (
      lit< tt,
      (
        c.requires.prime,
        subst (Each (IsReady g.row.P (λ d q. CanBeMade g.row.P d))) (sym c.as_slice.ensures)
            (subst Made (sym c.addend-item.is) (each_get_or Made c.args.addends.now c.loop-addend.addend-index c.addend-item.result c.loop-addend-test.true c.requires.made)),
      ),
    )

pub loop-addend-preserved : goal.loop-addend-preserved
loop-addend-preserved g c =
    let old = c.loop-addend.table in
    let new = c.store_operations.new.table in
    let keeps = c.in_ok-store_operations.ensures.kept in (
      done-more (λ (y : Addend). Each (IsReady g.row.P (IsThere old)) y.operations) (λ (y : Addend). Each (IsReady g.row.P (IsThere new)) y.operations) c.args.addends.now c.loop-addend.addend-index c.addend-item.result c.loop-addend-test.true c.addend-item.is (addend-kept g.row.P old new keeps)
          (subst (Each (IsReady g.row.P (IsThere new))) c.as_slice.ensures c.in_ok-store_operations.ensures.stored) c.loop-addend.invariant.0,
      λ d q h. keeps d q (c.loop-addend.invariant.1 d q h),
    )

pub returns-clause-stored : goal.returns-clause-stored
returns-clause-stored g c = subst (Each (λ (y : Addend). Each (IsReady g.row.P (IsThere c.loop-addend.table)) y.operations)) (take_all c.loop-addend.addend-index c.args.addends.now (omega (arith, c.loop-addend-test.false))) c.loop-addend.invariant.0

pub returns-clause-kept : goal.returns-clause-kept
returns-clause-kept g c = c.loop-addend.invariant.1
