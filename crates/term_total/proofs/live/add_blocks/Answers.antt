use Rattle.term_total.proofs.LiveLemmas.{blocks-more}
use Rattle.term_total.proofs.live.add_blocks.Goals as goal

pub loop-k-preserved : goal.loop-k-preserved
loop-k-preserved c =
    blocks-more c.args.p c.args.ranks.now c.args.q c.loop-k.k c.args.found.now.items c.loop-k.found.items c.add_block.new.found.items c.add_block-in-loop-k.new.found.items c.add_block-in-loop-k-2.new.found.items c.loop-k.invariant
    c.in_ok-add_block.ensures c.in_ok-add_block-2.ensures c.in_ok-add_block-3.ensures
