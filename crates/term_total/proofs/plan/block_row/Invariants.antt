use Rattle.std.proofs.Common.{◌≡◌, ◌++◌, drop, map}
use Rattle.report_law.specs.Names.{blocks}
use Rattle.term_total.specs.Names.{block_addend}
use Rattle.term_total.proofs.plan.block_row.Given as goal

abbrev pub invariant-loop-block : goal.invariant-loop-block
invariant-loop-block l = l.addends.items ++ map (block_addend l.p l.part) (drop l.block-index l.block-items) ≡ map (block_addend l.p l.part) (blocks l.p l.part.ranks)
