use Rattle.std.proofs.Common.{take}
use Rattle.simplex_set.specs.Levels.{IsLargest}
use Rattle.simplex_set.proofs.levels.largest.Given as goal

abbrev pub invariant-loop-simplex : goal.invariant-loop-simplex
invariant-loop-simplex l = IsLargest (take l.simplex-index l.all) l.most
