use Rattle.std.proofs.Common.{[], ◌∷◌, ◌++◌}
use Rattle.interval_cut.specs.Names.{IsPartOfTable}
use Rattle.interval_cut.proofs.faces.write_faces.Given as goal

abbrev pub invariant-loop-k : goal.invariant-loop-k
invariant-loop-k l = IsPartOfTable l.values (l.inner ++ (l.top ∷ [])) l.k l.next l.places l.starts
