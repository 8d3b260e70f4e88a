use Rattle.std.{proofs.Common.take, specs.List.AllZip}
use Rattle.job_report.specs.Jobs.{IsKnown}
use Rattle.job_report.proofs.known.known_of.Given as goal

abbrev pub invariant-loop-block : goal.invariant-loop-block
invariant-loop-block g l = AllZip (IsKnown g.B.Basis.is_of) (take l.block-index l.blocks) l.known.items
