use Rattle.std.{proofs.Common.{false, take}, specs.List.AllZip}
use Rattle.report_law.specs.Names.{IsComplexPart}
use Rattle.job_report.proofs.bases.basis_parts.Given as goal

abbrev pub invariant-loop-block : goal.invariant-loop-block
invariant-loop-block g l = AllZip (IsComplexPart false false g.row.P) (take l.block-index l.blocks) l.parts.items
