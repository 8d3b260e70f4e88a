use Rattle.std.proofs.Common.{◌≡◌, ◌++◌, drop}
use Rattle.complex_index.specs.Names.{shrunk}
use Rattle.complex_index.proofs.chains.boundary_pairs.Given as goal

abbrev pub invariant-loop-pair : goal.invariant-loop-pair
invariant-loop-pair g l = l.found.items ++ shrunk g.row.P l.faces (drop l.pair-index l.row) ≡ shrunk g.row.P l.faces l.row
