use Rattle.std.proofs.Common.{◌≡◌, ◌^◌, ℕ, List, get_or, lit<, subst}
use Rattle.complex_file.specs.{declared.block.Sent.Sent, Names.image}
use Rattle.certificate_law.specs.Names.{Asks, induced_stated, numbered}
use Rattle.certificate_walk.{specs.Names.induced_lines, proofs.Names.{induced_length, walk_passed}}
use Rattle.column_check.{specs.Ready.IsInducedReady, proofs.WalkLemmas.{loop-end, loop-item, loop-more, loop-room, loop-stop}}
use Rattle.column_check.proofs.induced.blocks_fault.Goals as goal

pub block_fault-requires : goal.block_fault-requires
block_fault-requires g c =
    let from = c.args.from.now.part.now in
    let to = c.args.to.now.part.now in
    let m = c.args.part.now in
    let ready = loop-item (Asks g.row.P 7) (induced_stated from to m) c.as_slice-block-items.result.now m.induced c.as_slice-block-items.ensures c.args.before c.loop-block.at c.loop-block.block-index c.loop-block.invariant c.block-item.result c.loop-block-test.true c.block-item.is (IsInducedReady g.row.P from to) c.requires.ready in
    let room = loop-room (Asks g.row.P 7) (induced_stated from to m) c.as_slice-block-items.result.now m.induced c.as_slice-block-items.ensures c.args.before c.loop-block.at c.loop-block.block-index c.loop-block.invariant c.block-item.result c.loop-block-test.true c.block-item.is (induced_lines c.block-item.result) (2 ^ 64) (induced_length from to m c.loop-block.block-index c.block-item.result) c.requires.room in
    (lit< tt, (lit< tt, (c.requires.prime, (c.requires.from, (c.requires.to, (ready, room))))))

pub returns-in_err-at : goal.returns-in_err-at
returns-in_err-at g c =
    let from = c.args.from.now.part.now in
    let to = c.args.to.now.part.now in
    let m = c.args.part.now in
    walk_passed (Asks g.row.P 7) c.args.before (numbered (induced_stated from to m) 0 m.induced) c.in_err-at.field-0.0 c.from_residual-in_err-at.result c.from_residual-in_err-at.ensures.1
    (loop-stop (Asks g.row.P 7) (induced_stated from to m) c.as_slice-block-items.result.now m.induced c.as_slice-block-items.ensures c.args.before c.loop-block.at c.loop-block.block-index c.loop-block.invariant c.block-item.result c.loop-block-test.true c.block-item.is c.in_err-at.field-0.0 (c.in_err-at.ensures m c.loop-block.block-index (subst (λ (ss : List Sent). (v : ℕ) → get_or c.in_ok-map.map v 0 ≡ image ss v) c.as_slice.ensures c.in_ok-map.ensures)))

pub loop-block-preserved : goal.loop-block-preserved
loop-block-preserved g c =
    let from = c.args.from.now.part.now in
    let to = c.args.to.now.part.now in
    let m = c.args.part.now in
    loop-more (Asks g.row.P 7) (induced_stated from to m) c.as_slice-block-items.result.now m.induced c.as_slice-block-items.ensures c.args.before c.loop-block.at c.loop-block.block-index c.loop-block.invariant c.block-item.result c.loop-block-test.true c.block-item.is c.in_ok-at.at (c.in_ok-at.ensures m c.loop-block.block-index (subst (λ (ss : List Sent). (v : ℕ) → get_or c.in_ok-map.map v 0 ≡ image ss v) c.as_slice.ensures c.in_ok-map.ensures))

pub returns : goal.returns
returns g c =
    let from = c.args.from.now.part.now in
    let to = c.args.to.now.part.now in
    let m = c.args.part.now in
    loop-end (Asks g.row.P 7) (induced_stated from to m) c.as_slice-block-items.result.now m.induced c.as_slice-block-items.ensures c.args.before c.loop-block.at c.loop-block.block-index c.loop-block.invariant c.loop-block-test.false
