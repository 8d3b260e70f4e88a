use Rattle.std.proofs.Common.{◌≡◌, ◌-◌, map, take}
use Rattle.simplicial_law.specs.Names.{terms_of}
use Rattle.complex_index.specs.Names.{level}
use Rattle.cohomology.specs.Names.{coboundaries_in}
use Rattle.job_report.proofs.depth.CohomologyDepth.primitives.Given as goal

abbrev pub invariant-loop-t : goal.invariant-loop-t
invariant-loop-t g l = l.chains.items ≡ map (λ b. terms_of (level l.index (l.n - 1)) b.primitive.row) (take l.t (coboundaries_in l.self l.n))
