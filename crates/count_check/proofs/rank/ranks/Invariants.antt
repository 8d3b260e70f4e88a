use Rattle.std.proofs.Common.{◌≡◌, length, map, take}
use Rattle.report.specs.declared.complex.DegreePart.{DegreePart}
use Rattle.count_check.proofs.rank.ranks.Given as goal

abbrev pub invariant-loop-degree : goal.invariant-loop-degree
invariant-loop-degree l = l.ranks.items ≡ map (λ (d : DegreePart). length d.classes) (take l.degree-index l.degrees)
