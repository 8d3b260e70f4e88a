use Rattle.std.{proofs.Common.take, specs.List.AllZip}
use Rattle.row_reduce.specs.Names.{IsVectorOfClass}
use Rattle.row_reduce.proofs.expanding.vectors.Given as goal

abbrev pub invariant-loop-class : goal.invariant-loop-class
invariant-loop-class g l = AllZip (IsVectorOfClass g.row.P l.images) (take l.class-index l.classes) l.rows.items
