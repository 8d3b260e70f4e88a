use Rattle.std.proofs.Common.{◌≡◌, sum_by, take}
use Rattle.certificate_walk.specs.Names.{degree_lines}
use Rattle.certificate_walk.proofs.count.degrees_lines.Given as goal

abbrev pub invariant-loop-degree : goal.invariant-loop-degree
invariant-loop-degree l = l.lines ≡ sum_by degree_lines (take l.degree-index l.degrees)
