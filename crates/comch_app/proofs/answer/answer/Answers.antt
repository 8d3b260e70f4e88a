use Rattle.comch_app.proofs.Endings.{long_answers}
use Rattle.comch_app.proofs.answer.answer.Goals as goal

pub returns-in_ok-input_refused-in-Err-TooLong-clause-answer : goal.returns-in_ok-input_refused-in-Err-TooLong-clause-answer
returns-in_ok-input_refused-in-Err-TooLong-clause-answer g c =
    long_answers c.args.asked _ _ _ _ _ c.in-Err-TooLong.field-0 _ _ c.most_bytes.ensures c.in-Err-TooLong.field-0-is c.in-Err-TooLong.ensures.gave
    c.in_ok-input_refused-in-Err-TooLong.ensures.status c.in_ok-input_refused-in-Err-TooLong.ensures.text
