use Rattle.comch_app.proofs.Endings.{made_ends, memory_ends, read_ends, read_refuses}
use Rattle.comch_app.proofs.top.reading_run.Goals as goal

pub returns-in-Ok-clause-answers : goal.returns-in-Ok-clause-answers
returns-in-Ok-clause-answers g c =
    made_ends c.args.asked _ _ _ _ _ _ c.in-Ok.status c.in-Ok.text _ _ _ _ c.in-Ok.ensures.answer c.in-Ok.ensures.made c.as_slice.ensures c.said.ensures.says

pub returns-in-Err-Memory-clause-answers : goal.returns-in-Err-Memory-clause-answers
returns-in-Err-Memory-clause-answers g c =
    memory_ends c.args.asked _ _ _ _ _ _ c.in-Err-Memory.ensures.answer.read _ _ _ c.in-Err-Memory.ensures.answer.gave c.said-in-Err-Memory.ensures.says

pub returns-in-Err-Read-clause-answers : goal.returns-in-Err-Read-clause-answers
returns-in-Err-Read-clause-answers g c =
    read_ends c.args.asked _ _ _ _ _ _ c.in-Err-Read.ensures.answer.read c.in-Err-Read.field-0 _ _ _ c.in-Err-Read.ensures.answer.gave
    c.in-Err-Read.field-0-is c.in-Err-Read.ensures.cause c.said-in-Err-Read.ensures.says

pub returns-in-Err-Read-clause-refusal : goal.returns-in-Err-Read-clause-refusal
returns-in-Err-Read-clause-refusal g c = read_refuses _ _ _ c.said-in-Err-Read.ensures.says
