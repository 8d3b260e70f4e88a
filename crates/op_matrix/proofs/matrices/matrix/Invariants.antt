use Rattle.std.{proofs.Common.take, specs.List.AllZip}
use Rattle.op_matrix.specs.Tables.{IsResultColumn}
use Rattle.op_matrix.proofs.matrices.matrix.Given as goal

abbrev pub invariant-loop-i : goal.invariant-loop-i
invariant-loop-i g l = AllZip (IsResultColumn {p = g.row.P} g.B.Basis.keeps l.index (g.B.Basis.classes l.basis) l.block) (take l.i (g.B.Basis.classes l.basis l.block.from)) l.columns.items
