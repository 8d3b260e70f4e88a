use Rattle.std.proofs.Common.{◌+◌, ◌≡◌, [], arith, map}
use Rattle.report_law.specs.Names.{block_on, operations}
use Rattle.term_total.{specs.Names.is_live_block, proofs.LiveLemmas.parts-more}
use Rattle.term_total.proofs.live.blocks.Goals as goal

pub loop-q-preserved : goal.loop-q-preserved
loop-q-preserved c =
    let q = c.loop-q.q in
    let ranks = c.args.ranks.now in
    let e : q ≡ 0 + q = omega arith in
    parts-more (is_live_block ranks) (λ x. map (block_on c.args.p x) (operations c.args.p x)) 0 q q [] c.loop-q.found.items c.add_blocks.new.found.items c.loop-q.invariant e c.in_ok-add_blocks.ensures
