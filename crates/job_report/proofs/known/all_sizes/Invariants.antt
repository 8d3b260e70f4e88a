use Rattle.std.{proofs.Common.take, specs.List.AllZip}
use Rattle.job_report.specs.Jobs.{IsSize}
use Rattle.job_report.proofs.known.all_sizes.Given as goal

abbrev pub invariant-loop-complex : goal.invariant-loop-complex
invariant-loop-complex g l = AllZip (IsSize {p = g.row.P} g.B.Basis.classes) (take l.complex-index l.known) l.sizes.items
