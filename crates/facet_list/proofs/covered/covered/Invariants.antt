use Rattle.std.proofs.Common.{◌+◌, take}
use Rattle.complex_index.specs.Names.{level}
use Rattle.facet_list.specs.Covered.{Covers}
use Rattle.facet_list.proofs.covered.covered.Given as goal

abbrev pub invariant-loop-place : goal.invariant-loop-place
invariant-loop-place l = Covers (level l.index l.n) (take l.place (level l.index (l.n + 1))) l.covered.items
