use Rattle.std.specs.List.{AllZip}
use Rattle.cohomology.specs.Names.{IsCoboundaryFrom}
use Rattle.cohomology.proofs.data.coboundaries_from.Given as goal

abbrev pub invariant-loop-row : goal.invariant-loop-row
invariant-loop-row g l = AllZip (IsCoboundaryFrom {p = g.row.P} l.degree) l.yielded l.coboundaries.items
