use Rattle.std.specs.List.{AllZip}
use Rattle.signed_sum.specs.Names.{numbers_from}
use Rattle.job_report.specs.Parts.{IsListedDegree}
use Rattle.job_report.proofs.degrees.degree_parts.Given as goal

abbrev pub invariant-loop-n : goal.invariant-loop-n
invariant-loop-n g l = AllZip (IsListedDegree {p = g.row.P} g.B.Basis.keeps l.index (g.B.Basis.classes l.basis)) (numbers_from 0 l.n) l.parts.items
