use Rattle.line_difference.proofs.PlanLemmas.{each-stored}
use Rattle.job_report.proofs.whole.charged.Goals as goal

pub returns-in-Ok-clause-stored : goal.returns-in-Ok-clause-stored
returns-in-Ok-clause-stored g c = each-stored g.row.P c.total.new.table c.args.parts.now c.in-Ok.ensures.stored
