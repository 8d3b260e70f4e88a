use Rattle.std.proofs.Common.{◌+◌}
use Rattle.cohomology.{specs.Names.IsReachedIn, proofs.CoboundaryLemmas.AreBound, proofs.LoopLemmas.{AreMade, IsFound}}
use Rattle.cohomology.proofs.data.Cohomology.of_pair.Given as goal

abbrev pub invariant-loop-degree : goal.invariant-loop-degree
invariant-loop-degree g l =
    AreMade (IsFound g.row.P l.full l.sub) l.degree l.degrees.items × AreMade (AreBound g.row.P l.full l.sub) (l.degree + 1) l.bounds.items × IsReachedIn g.row.P l.full l.sub l.degree l.reached.pivots l.reached.stored.items
