use Rattle.std.proofs.Common.{◌^◌, lit<, refl}
use Rattle.certificate_law.specs.Names.{Asks, cartan_stated, numbered}
use Rattle.certificate_walk.proofs.Names.{walk_passed}
use Rattle.column_check.{specs.Ready.IsCartanReady, proofs.WalkLemmas.{loop-end, loop-item, loop-more, loop-room, loop-stop}}
use Rattle.column_check.proofs.cartans.cartans_fault.Goals as goal

pub line_fault-requires : goal.line_fault-requires
line_fault-requires g c =
    let part = c.args.listing.now.part.now in
    let ready = loop-item (Asks g.row.P 8) (cartan_stated part) c.as_slice-part-items.result.now part.cartans c.as_slice-part-items.ensures c.args.before c.loop-part.at c.loop-part.part-index c.loop-part.invariant c.part-item.result c.loop-part-test.true c.part-item.is (IsCartanReady g.row.P c.args.table.now part) c.requires.ready in
    let room = loop-room (Asks g.row.P 8) (cartan_stated part) c.as_slice-part-items.result.now part.cartans c.as_slice-part-items.ensures c.args.before c.loop-part.at c.loop-part.part-index c.loop-part.invariant c.part-item.result c.loop-part-test.true c.part-item.is 2 (2 ^ 64) refl c.requires.room in
    (lit< tt, (lit< tt, (c.requires.prime, (c.requires.of, (ready, room)))))

pub returns-in_err-at : goal.returns-in_err-at
returns-in_err-at g c =
    let part = c.args.listing.now.part.now in
    walk_passed (Asks g.row.P 8) c.args.before (numbered (cartan_stated part) 0 part.cartans) c.in_err-at.field-0.0 c.from_residual.result c.from_residual.ensures.1
    (loop-stop (Asks g.row.P 8) (cartan_stated part) c.as_slice-part-items.result.now part.cartans c.as_slice-part-items.ensures c.args.before c.loop-part.at c.loop-part.part-index c.loop-part.invariant c.part-item.result c.loop-part-test.true c.part-item.is c.in_err-at.field-0.0 (c.in_err-at.ensures c.loop-part.part-index))

pub loop-part-preserved : goal.loop-part-preserved
loop-part-preserved g c =
    let part = c.args.listing.now.part.now in
    loop-more (Asks g.row.P 8) (cartan_stated part) c.as_slice-part-items.result.now part.cartans c.as_slice-part-items.ensures c.args.before c.loop-part.at c.loop-part.part-index c.loop-part.invariant c.part-item.result c.loop-part-test.true c.part-item.is c.in_ok-at.at (c.in_ok-at.ensures c.loop-part.part-index)

pub returns : goal.returns
returns g c =
    let part = c.args.listing.now.part.now in
    loop-end (Asks g.row.P 8) (cartan_stated part) c.as_slice-part-items.result.now part.cartans c.as_slice-part-items.ensures c.args.before c.loop-part.at c.loop-part.part-index c.loop-part.invariant c.loop-part-test.false
