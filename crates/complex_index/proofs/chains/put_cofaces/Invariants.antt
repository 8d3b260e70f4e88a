use Rattle.std.proofs.Common.{◌≡◌, ◌++◌, map, take}
use Rattle.complex_index.specs.Names.{pair_of}
use Rattle.complex_index.proofs.chains.put_cofaces.Given as goal

abbrev pub invariant-loop-coface : goal.invariant-loop-coface
invariant-loop-coface g l = l.pairs.items ≡ l.fn.pairs.items ++ map (pair_of g.row.P l.value) (take l.coface-index l.cofaces)
