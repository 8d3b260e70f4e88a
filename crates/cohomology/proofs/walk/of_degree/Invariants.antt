use Rattle.std.proofs.Common.{◌≡◌, map}
use Rattle.cohomology.proofs.Below.{Each}
use Rattle.complex_index.specs.declared.indexed.Cochain.{Cochain}
use Rattle.cohomology.proofs.walk.of_degree.Given as goal

abbrev pub invariant-loop-row : goal.invariant-loop-row
invariant-loop-row g l = (map (λ (c : Cochain g.row.P). c.row) l.cochains.items ≡ l.yielded) × Each (λ (c : Cochain g.row.P). c.degree ≡ l.degree) l.cochains.items
