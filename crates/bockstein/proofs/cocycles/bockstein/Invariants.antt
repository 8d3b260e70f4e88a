use Rattle.bockstein.specs.Places.{AreDivided}
use Rattle.bockstein.proofs.cocycles.bockstein.Given as goal

abbrev pub invariant-loop-place : goal.invariant-loop-place
invariant-loop-place g l = AreDivided g.row.P l.index l.cochain.degree l.cochain.row l.place l.row
