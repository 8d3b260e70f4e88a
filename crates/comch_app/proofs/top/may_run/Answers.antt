use Rattle.comch_app.proofs.Endings.{memory_ends_may}
use Rattle.comch_app.proofs.top.may_run.Goals as goal

pub returns-in-Err-clause-answers : goal.returns-in-Err-clause-answers
returns-in-Err-clause-answers g c = memory_ends_may c.args.prime c.args.degree _ _ _ c.said-in-Err.ensures.says
