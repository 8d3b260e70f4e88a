use Rattle.std.proofs.Common.{◌^◌, ◌+◌, lit<, refl, Ok, Err}
use Rattle.certificate_law.specs.Names.{Asks, numbered, product_column, product_opens, product_stated, with_stands}
use Rattle.certificate_walk.proofs.Names.{walk_passed}
use Rattle.column_check.{specs.Ready.IsPairReady, proofs.WalkLemmas.{column-size, columned, headed, loop-end, loop-item, loop-more, loop-room, loop-stop}}
use Rattle.column_check.proofs.products.product_fault.Goals as goal

pub column_fault-requires : goal.column_fault-requires
column_fault-requires g c =
    let part = c.args.listing.now.part.now in
    let x = c.args.part.now in
    let line = columned (product_column part x) (λ y. with_stands y.primitive) in
    let ready = loop-item (Asks g.row.P 6) line c.as_slice-column-items.result.now x.columns c.as_slice-column-items.ensures (c.args.before + 1) c.loop-column.at c.loop-column.column-index c.loop-column.invariant c.column-item.result c.loop-column-test.true c.column-item.is (IsPairReady g.row.P part x) c.requires.ready.columns in
    let room = loop-room (Asks g.row.P 6) line c.as_slice-column-items.result.now x.columns c.as_slice-column-items.ensures (c.args.before + 1) c.loop-column.at c.loop-column.column-index c.loop-column.invariant c.column-item.result c.loop-column-test.true c.column-item.is 2 (2 ^ 64) refl (column-size (product_column part x) (λ y. with_stands y.primitive) x.columns c.args.before (2 ^ 64) c.requires.room) in
    (lit< tt, (c.requires.prime, (c.requires.of, (c.requires.ready.low, (c.requires.ready.live, (ready, room))))))

pub returns-in_err-at : goal.returns-in_err-at
returns-in_err-at g c = λ k.
    let part = c.args.listing.now.part.now in
    let x = c.args.part.now in
    let line = columned (product_column part x) (λ y. with_stands y.primitive) in
    walk_passed (Asks g.row.P 6) c.args.before (product_stated part k x) c.in_err-at.field-0.0 c.from_residual.result c.from_residual.ensures.1
    (headed (Asks g.row.P 6) c.args.before (product_opens part k x) (numbered line 0 x.columns) (Err c.in_err-at.field-0.0) tt
    (loop-stop (Asks g.row.P 6) line c.as_slice-column-items.result.now x.columns c.as_slice-column-items.ensures (c.args.before + 1) c.loop-column.at c.loop-column.column-index c.loop-column.invariant c.column-item.result c.loop-column-test.true c.column-item.is c.in_err-at.field-0.0 (c.in_err-at.ensures c.loop-column.column-index)))

pub loop-column-preserved : goal.loop-column-preserved
loop-column-preserved g c =
    let part = c.args.listing.now.part.now in
    let x = c.args.part.now in
    let line = columned (product_column part x) (λ y. with_stands y.primitive) in
    loop-more (Asks g.row.P 6) line c.as_slice-column-items.result.now x.columns c.as_slice-column-items.ensures (c.args.before + 1) c.loop-column.at c.loop-column.column-index c.loop-column.invariant c.column-item.result c.loop-column-test.true c.column-item.is c.in_ok-at.at (c.in_ok-at.ensures c.loop-column.column-index)

pub returns : goal.returns
returns g c = λ k.
    let part = c.args.listing.now.part.now in
    let x = c.args.part.now in
    let line = columned (product_column part x) (λ y. with_stands y.primitive) in
    headed (Asks g.row.P 6) c.args.before (product_opens part k x) (numbered line 0 x.columns) (Ok c.loop-column.at) tt (loop-end (Asks g.row.P 6) line c.as_slice-column-items.result.now x.columns c.as_slice-column-items.ensures (c.args.before + 1) c.loop-column.at c.loop-column.column-index c.loop-column.invariant c.loop-column-test.false)
