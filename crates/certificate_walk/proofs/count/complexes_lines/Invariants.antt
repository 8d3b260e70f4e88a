use Rattle.std.proofs.Common.{◌≡◌, sum_by, take}
use Rattle.certificate_walk.specs.Names.{complex_lines}
use Rattle.certificate_walk.proofs.count.complexes_lines.Given as goal

abbrev pub invariant-loop-part : goal.invariant-loop-part
invariant-loop-part l = l.lines ≡ sum_by complex_lines (take l.part-index l.parts)
