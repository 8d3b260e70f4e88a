use Rattle.std.{proofs.Common.{◌≡◌, map, flat_map}, specs.List.filter}
use Rattle.signed_sum.specs.Names.{numbers_from}
use Rattle.report_law.specs.Names.{block_on, operations}
use Rattle.term_total.specs.Names.{is_live_block}
use Rattle.term_total.proofs.live.blocks.Given as goal

abbrev pub invariant-loop-q : goal.invariant-loop-q
invariant-loop-q l = l.found.items ≡ filter (is_live_block l.ranks) (flat_map (λ q. map (block_on l.p q) (operations l.p q)) (numbers_from 0 l.q))
