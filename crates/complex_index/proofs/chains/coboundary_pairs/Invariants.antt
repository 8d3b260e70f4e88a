use Rattle.std.proofs.Common.{◌≡◌, ◌++◌, drop}
use Rattle.complex_index.specs.Names.{spread}
use Rattle.complex_index.proofs.chains.coboundary_pairs.Given as goal

abbrev pub invariant-loop-pair : goal.invariant-loop-pair
invariant-loop-pair g l = l.found.items ++ spread g.row.P l.above (drop l.pair-index l.row) ≡ spread g.row.P l.above l.row
