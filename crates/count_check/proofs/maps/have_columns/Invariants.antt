use Rattle.std.proofs.Common.{◌≤◌, get_or, length, take}
use Rattle.linear_law.specs.Names.{Each}
use Rattle.report.specs.declared.map.InducedPart.{InducedPart}
use Rattle.count_check.proofs.maps.have_columns.Given as goal

abbrev pub invariant-loop-block : goal.invariant-loop-block
invariant-loop-block l = Each (λ (x : InducedPart). get_or l.to x.q 0 ≤ length x.columns) (take l.block-index l.listed)
