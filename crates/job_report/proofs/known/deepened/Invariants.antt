use Rattle.std.specs.List.{AllZip}
use Rattle.job_report.specs.Jobs.{IsDeeper}
use Rattle.job_report.proofs.known.deepened.Given as goal

abbrev pub invariant-loop-complex : goal.invariant-loop-complex
invariant-loop-complex g l = AllZip (IsDeeper g.A.Basis.is_of g.B.Basis.is_of) l.yielded l.all.items
