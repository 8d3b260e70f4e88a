use Rattle.comch_app.proofs.ElementAnswers.{buildable, few}
use Rattle.comch_app.proofs.may.answer_at.Goals as goal

pub build-requires-clause-few : goal.build-requires-clause-few
build-requires-clause-few g c = buildable _ _ c.candidates-count.ensures c.if-count-gt-DEFAULT_LIMIT.false

pub returns-clause-answer : goal.returns-clause-answer
returns-clause-answer g c = (few _ _ c.candidates-count.ensures c.if-count-gt-DEFAULT_LIMIT.false, c.in_ok-text.ensures)
