use Rattle.std.proofs.Common.{sym, ◌∙◌}
use Rattle.operad_law.proofs.PermLemmas.{repeated-none}
use Rattle.operad_law.proofs.odd_word.OddWord.new.Goals as goal

pub invariant_of-result : goal.invariant_of-result
invariant_of-result c = rw c.in-Ok.ensures.items (repeated-none c.args.symbols.now (sym c.first_repeated.ensures ∙ c.in_default.is))
