use Rattle.std.proofs.Common.{◌^◌, lit<}
use Rattle.certificate_law.specs.Names.{Asks, numbered, product_stated}
use Rattle.certificate_walk.{specs.Names.product_lines, proofs.Names.{product_length, walk_passed}}
use Rattle.column_check.{specs.Ready.IsProductReady, proofs.WalkLemmas.{loop-end, loop-item, loop-more, loop-room, loop-stop}}
use Rattle.column_check.proofs.products.products_fault.Goals as goal

pub product_fault-requires : goal.product_fault-requires
product_fault-requires g c =
    let part = c.args.listing.now.part.now in
    let ready = loop-item (Asks g.row.P 6) (product_stated part) c.as_slice-part-items.result.now part.products c.as_slice-part-items.ensures c.args.before c.loop-part.at c.loop-part.part-index c.loop-part.invariant c.part-item.result c.loop-part-test.true c.part-item.is (IsProductReady g.row.P part) c.requires.ready in
    let room = loop-room (Asks g.row.P 6) (product_stated part) c.as_slice-part-items.result.now part.products c.as_slice-part-items.ensures c.args.before c.loop-part.at c.loop-part.part-index c.loop-part.invariant c.part-item.result c.loop-part-test.true c.part-item.is (product_lines c.part-item.result) (2 ^ 64) (product_length part c.loop-part.part-index c.part-item.result) c.requires.room in
    (lit< tt, (c.requires.prime, (c.requires.of, (ready, room))))

pub returns-in_err-at : goal.returns-in_err-at
returns-in_err-at g c =
    let part = c.args.listing.now.part.now in
    walk_passed (Asks g.row.P 6) c.args.before (numbered (product_stated part) 0 part.products) c.in_err-at.field-0.0 c.from_residual.result c.from_residual.ensures.1
    (loop-stop (Asks g.row.P 6) (product_stated part) c.as_slice-part-items.result.now part.products c.as_slice-part-items.ensures c.args.before c.loop-part.at c.loop-part.part-index c.loop-part.invariant c.part-item.result c.loop-part-test.true c.part-item.is c.in_err-at.field-0.0 (c.in_err-at.ensures c.loop-part.part-index))

pub loop-part-preserved : goal.loop-part-preserved
loop-part-preserved g c =
    let part = c.args.listing.now.part.now in
    loop-more (Asks g.row.P 6) (product_stated part) c.as_slice-part-items.result.now part.products c.as_slice-part-items.ensures c.args.before c.loop-part.at c.loop-part.part-index c.loop-part.invariant c.part-item.result c.loop-part-test.true c.part-item.is c.in_ok-at.at (c.in_ok-at.ensures c.loop-part.part-index)

pub returns : goal.returns
returns g c =
    let part = c.args.listing.now.part.now in
    loop-end (Asks g.row.P 6) (product_stated part) c.as_slice-part-items.result.now part.products c.as_slice-part-items.ensures c.args.before c.loop-part.at c.loop-part.part-index c.loop-part.invariant c.loop-part-test.false
