use Rattle.std.proofs.Common.{ℕ, ◌<◌}
use Rattle.certificate_law.specs.Names.{Holds}
use Rattle.cert_check.specs.Ready.{AreAllStored}
use Rattle.cert_check.proofs.conditions.conditions.Given as goal

abbrev pub invariant-loop-condition : goal.invariant-loop-condition
invariant-loop-condition g l = record {
  passed : (lower : ℕ) → lower < l.condition → Holds lower l.report;
  stored : AreAllStored g.row.P l.condition l.table l.report.complexes;
}
