use Rattle.std.{proofs.Common.take, specs.List.AllZip}
use Rattle.op_matrix.{specs.Tables.IsPairColumn, proofs.TableLemmas.pairs_of}
use Rattle.op_matrix.proofs.products.ring.Given as goal

abbrev pub invariant-loop-i : goal.invariant-loop-i
invariant-loop-i g l = AllZip (IsPairColumn {p = g.row.P} g.B.Basis.keeps l.index (g.B.Basis.classes l.basis) l.product) (pairs_of (take l.i (g.B.Basis.classes l.basis l.product.a)) (g.B.Basis.classes l.basis l.product.b)) l.columns.items
