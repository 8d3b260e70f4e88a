use Rattle.comch_app.proofs.Endings.{memory_ends_sample}
use Rattle.comch_app.proofs.top.sample_run.Goals as goal

pub returns-in-Err-clause-answers : goal.returns-in-Err-clause-answers
returns-in-Err-clause-answers g c = memory_ends_sample c.args.number c.args.prime _ _ _ c.said-in-Err.ensures.says
