use Rattle.std.proofs.Common.{ℕ, take}
use Rattle.cohomology.{proofs.Below.{Congruent, IsRow, value_in}, specs.Names.primitives_sum}
use Rattle.cohomology.proofs.coordinates.primitives.Given as goal

abbrev pub invariant-loop-coboundary : goal.invariant-loop-coboundary
invariant-loop-coboundary g l =
    IsRow g.row.P l.sum × ((x : ℕ) → Congruent g.row.P (value_in l.sum x) (primitives_sum {p = g.row.P} (take l.coboundary-index l.coboundaries) l.given x))
