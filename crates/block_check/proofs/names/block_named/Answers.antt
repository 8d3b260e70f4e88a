use Rattle.std.{proofs.Common.{◌∙◌, sym, ap}, specs.Str.bytes_eq}
use Rattle.block_check.proofs.NameLemmas.{found_block, not_there, not_yet}
use Rattle.block_check.proofs.names.block_named.Goals as goal

pub returns-then-eq : goal.returns-then-eq
returns-then-eq c = λ cs e.
    let name = c.args.name.now in
    let r = found_block cs c.args.blocks.now c.loop-block.block-index c.block-item.result name e c.loop-block-test.true c.block-item.is (ap (bytes_eq name) (sym c.bytes.ensures) ∙ sym c.if-eq.ensures) (c.loop-block.invariant cs e) in
    (r.there, r.same)

pub loop-block-preserved : goal.loop-block-preserved
loop-block-preserved c = λ cs e.
    let name = c.args.name.now in
    not_yet cs c.args.blocks.now c.loop-block.block-index c.block-item.result name e c.loop-block-test.true c.block-item.is (ap (bytes_eq name) (sym c.bytes.ensures) ∙ sym c.if-eq.ensures) (c.loop-block.invariant cs e)

pub returns : goal.returns
returns c = λ cs e. not_there cs c.args.blocks.now c.loop-block.block-index c.args.name.now e c.loop-block-test.false (c.loop-block.invariant cs e)
