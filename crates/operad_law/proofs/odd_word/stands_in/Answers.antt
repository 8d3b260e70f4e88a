use Rattle.std.proofs.Common.{◌∙◌}
use Rattle.operad_law.proofs.WordLemmas.{any_occurs}
use Rattle.operad_law.proofs.odd_word.stands_in.Goals as goal

pub returns : goal.returns
returns c = c.contains.ensures.value ∙ any_occurs c.args.symbol c.args.symbols.now
