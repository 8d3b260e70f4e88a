use Rattle.std.{proofs.Common.take, specs.List.AllZip}
use Rattle.row_reduce.specs.Names.{IsClearedBy}
use Rattle.row_reduce.proofs.eliminating.cleared_all.Given as goal

abbrev pub invariant-loop-old : goal.invariant-loop-old
invariant-loop-old g l = AllZip (IsClearedBy g.row.P l.newest) (take l.old-index l.echelon) l.list.items
