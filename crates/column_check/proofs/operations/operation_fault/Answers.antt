use Rattle.std.proofs.Common.{◌^◌, ◌+◌, arith, lit<, refl, Ok, Err}
use Rattle.certificate_law.specs.Names.{Asks, rank_in, numbered, operation_column, operation_opens, operation_stated, with_stands}
use Rattle.certificate_walk.proofs.Names.{walk_passed}
use Rattle.column_check.{specs.Ready.IsColumnReady, proofs.WalkLemmas.{column-size, columned, headed, inside, loop-end, loop-item, loop-more, loop-room, loop-stop}}
use Rattle.column_check.proofs.operations.operation_fault.Goals as goal

pub column_fault-requires : goal.column_fault-requires
column_fault-requires g c =
    let part = c.args.listing.now.part.now in
    let x = c.args.part.now in
    let line = columned (operation_column part x) (λ y. with_stands y.primitive) in
    let here = inside (Asks g.row.P 6) line c.as_slice-column-items.result.now x.columns c.as_slice-column-items.ensures (c.args.before + 1) c.loop-k.at c.loop-k.k c.loop-k.invariant c.column-item.result c.loop-k-test.true c.column-item.is in
    let count = c.requires.ready.count in
    let few = c.requires.ready.few in
    let ready = loop-item (Asks g.row.P 6) line c.as_slice-column-items.result.now x.columns c.as_slice-column-items.ensures (c.args.before + 1) c.loop-k.at c.loop-k.k c.loop-k.invariant c.column-item.result c.loop-k-test.true c.column-item.is (IsColumnReady g.row.P (rank_in part x.to)) c.requires.ready.columns in
    let room = loop-room (Asks g.row.P 6) line c.as_slice-column-items.result.now x.columns c.as_slice-column-items.ensures (c.args.before + 1) c.loop-k.at c.loop-k.k c.loop-k.invariant c.column-item.result c.loop-k-test.true c.column-item.is 2 (2 ^ 64) refl (column-size (operation_column part x) (λ y. with_stands y.primitive) x.columns c.args.before (2 ^ 64) c.requires.room) in
    (lit< tt, (lit< tt, (c.requires.prime, (c.requires.of, (c.requires.ready, (omega (arith, here, count), (omega (arith, here, few), (ready, room))))))))

pub returns-in_err-at : goal.returns-in_err-at
returns-in_err-at g c = λ i.
    let part = c.args.listing.now.part.now in
    let x = c.args.part.now in
    let line = columned (operation_column part x) (λ y. with_stands y.primitive) in
    walk_passed (Asks g.row.P 6) c.args.before (operation_stated part i x) c.in_err-at.field-0.0 c.from_residual.result c.from_residual.ensures.1
    (headed (Asks g.row.P 6) c.args.before (operation_opens part i x) (numbered line 0 x.columns) (Err c.in_err-at.field-0.0) tt
    (loop-stop (Asks g.row.P 6) line c.as_slice-column-items.result.now x.columns c.as_slice-column-items.ensures (c.args.before + 1) c.loop-k.at c.loop-k.k c.loop-k.invariant c.column-item.result c.loop-k-test.true c.column-item.is c.in_err-at.field-0.0 c.in_err-at.ensures))

pub loop-k-preserved : goal.loop-k-preserved
loop-k-preserved g c =
    let part = c.args.listing.now.part.now in
    let x = c.args.part.now in
    let line = columned (operation_column part x) (λ y. with_stands y.primitive) in
    loop-more (Asks g.row.P 6) line c.as_slice-column-items.result.now x.columns c.as_slice-column-items.ensures (c.args.before + 1) c.loop-k.at c.loop-k.k c.loop-k.invariant c.column-item.result c.loop-k-test.true c.column-item.is c.in_ok-at.at c.in_ok-at.ensures

pub returns : goal.returns
returns g c = λ i.
    let part = c.args.listing.now.part.now in
    let x = c.args.part.now in
    let line = columned (operation_column part x) (λ y. with_stands y.primitive) in
    headed (Asks g.row.P 6) c.args.before (operation_opens part i x) (numbered line 0 x.columns) (Ok c.loop-k.at) tt (loop-end (Asks g.row.P 6) line c.as_slice-column-items.result.now x.columns c.as_slice-column-items.ensures (c.args.before + 1) c.loop-k.at c.loop-k.k c.loop-k.invariant c.loop-k-test.false)
