use Rattle.std.proofs.Common.{◌^◌, lit<}
use Rattle.certificate_law.specs.Names.{Asks, numbered, operation_stated}
use Rattle.certificate_walk.{specs.Names.operation_lines, proofs.Names.{operation_length, walk_passed}}
use Rattle.column_check.{specs.Ready.IsOperationReady, proofs.WalkLemmas.{loop-end, loop-item, loop-more, loop-room, loop-stop}}
use Rattle.column_check.proofs.operations.operations_fault.Goals as goal

pub operation_fault-requires : goal.operation_fault-requires
operation_fault-requires g c =
    let part = c.args.listing.now.part.now in
    let ready = loop-item (Asks g.row.P 6) (operation_stated part) c.as_slice-part-items.result.now part.operations c.as_slice-part-items.ensures c.args.before c.loop-part.at c.loop-part.part-index c.loop-part.invariant c.part-item.result c.loop-part-test.true c.part-item.is (IsOperationReady g.row.P c.args.table.now part) c.requires.ready in
    let room = loop-room (Asks g.row.P 6) (operation_stated part) c.as_slice-part-items.result.now part.operations c.as_slice-part-items.ensures c.args.before c.loop-part.at c.loop-part.part-index c.loop-part.invariant c.part-item.result c.loop-part-test.true c.part-item.is (operation_lines c.part-item.result) (2 ^ 64) (operation_length part c.loop-part.part-index c.part-item.result) c.requires.room in
    (lit< tt, (lit< tt, (c.requires.prime, (c.requires.of, (ready, room)))))

pub returns-in_err-at : goal.returns-in_err-at
returns-in_err-at g c =
    let part = c.args.listing.now.part.now in
    walk_passed (Asks g.row.P 6) c.args.before (numbered (operation_stated part) 0 part.operations) c.in_err-at.field-0.0 c.from_residual.result c.from_residual.ensures.1
    (loop-stop (Asks g.row.P 6) (operation_stated part) c.as_slice-part-items.result.now part.operations c.as_slice-part-items.ensures c.args.before c.loop-part.at c.loop-part.part-index c.loop-part.invariant c.part-item.result c.loop-part-test.true c.part-item.is c.in_err-at.field-0.0 (c.in_err-at.ensures c.loop-part.part-index))

pub loop-part-preserved : goal.loop-part-preserved
loop-part-preserved g c =
    let part = c.args.listing.now.part.now in
    loop-more (Asks g.row.P 6) (operation_stated part) c.as_slice-part-items.result.now part.operations c.as_slice-part-items.ensures c.args.before c.loop-part.at c.loop-part.part-index c.loop-part.invariant c.part-item.result c.loop-part-test.true c.part-item.is c.in_ok-at.at (c.in_ok-at.ensures c.loop-part.part-index)

pub returns : goal.returns
returns g c =
    let part = c.args.listing.now.part.now in
    loop-end (Asks g.row.P 6) (operation_stated part) c.as_slice-part-items.result.now part.operations c.as_slice-part-items.ensures c.args.before c.loop-part.at c.loop-part.part-index c.loop-part.invariant c.loop-part-test.false
