use Rattle.std.proofs.Common.{[], ◌∷◌, ◌++◌}
use Rattle.interval_cut.specs.Names.{IsTaken}
use Rattle.interval_cut.proofs.live_search.dead_end.Given as goal

abbrev pub invariant-loop-i : goal.invariant-loop-i
invariant-loop-i l = IsTaken l.degree l.values (l.inner ++ (l.top ∷ [])) l.i l.start l.counts l.nexts
