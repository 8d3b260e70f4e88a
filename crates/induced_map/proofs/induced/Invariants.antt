use Rattle.std.{proofs.Common.{take, get_or}, specs.List.AllZip}
use Rattle.induced_map.specs.Induced.{IsPulledColumn}
use Rattle.induced_map.proofs.induced.Given as goal

abbrev pub invariant-loop-i : goal.invariant-loop-i
invariant-loop-i g l = AllZip (IsPulledColumn {p = g.row.P} g.B.Basis.keeps (λ v. get_or l.map v 0) l.from l.to (g.B.Basis.classes l.source) l.q) (take l.i (g.B.Basis.classes l.target l.q)) l.columns.items
