use Rattle.std.{proofs.Common.take, specs.List.AllZip}
use Rattle.bockstein.specs.Matrices.{IsBocksteinColumn}
use Rattle.bockstein.proofs.matrices.bockstein_matrix.Given as goal

abbrev pub invariant-loop-i : goal.invariant-loop-i
invariant-loop-i g l = AllZip (IsBocksteinColumn {p = g.row.P} g.B.Basis.keeps l.index (g.B.Basis.classes l.basis) l.n) (take l.i (g.B.Basis.classes l.basis l.n)) l.columns.items
