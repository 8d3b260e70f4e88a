use Rattle.comch_app.proofs.ElementAnswers.{is_element}
use Rattle.comch_app.proofs.may.printed.Goals as goal

pub returns : goal.returns
returns c = is_element _ _ _ _ c.weight-weight.ensures.sum c.requires c.text_of.ensures
