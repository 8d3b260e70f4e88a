use Rattle.cohomology.{specs.Names.IsReachedIn, proofs.LoopLemmas.{AreMade, IsFound}}
use Rattle.cohomology.proofs.classes.Classes.of_pair.Given as goal

abbrev pub invariant-loop-degree : goal.invariant-loop-degree
invariant-loop-degree g l = AreMade (IsFound g.row.P l.full l.sub) l.degree l.degrees.items × IsReachedIn g.row.P l.full l.sub l.degree l.reached.pivots l.reached.stored.items
