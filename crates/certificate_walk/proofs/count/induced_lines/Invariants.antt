use Rattle.std.proofs.Common.{◌≡◌, sum_by, take}
use Rattle.certificate_walk.specs.Names.{induced_lines}
use Rattle.certificate_walk.proofs.count.induced_lines.Given as goal

abbrev pub invariant-loop-block : goal.invariant-loop-block
invariant-loop-block l = l.lines ≡ sum_by induced_lines (take l.block-index l.blocks)
