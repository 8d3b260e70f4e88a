use Rattle.std.{proofs.Common.{get_or, take}, specs.List.AllZip}
use Rattle.job_report.specs.Parts.{IsListedInduced}
use Rattle.job_report.proofs.maps.induced_parts.Given as goal

abbrev pub invariant-loop-q : goal.invariant-loop-q
invariant-loop-q g l = AllZip (IsListedInduced {p = g.row.P} g.B.Basis.keeps (λ v. get_or l.map v 0) l.from.index l.to.index (g.B.Basis.classes l.from.basis) (g.B.Basis.classes l.to.basis)) (take l.q-index l.q-items) l.parts.items
