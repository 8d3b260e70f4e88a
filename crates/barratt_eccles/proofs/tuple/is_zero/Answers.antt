use Rattle.std.proofs.Common.{sym, ap, ◌∙◌, is_some}
use Rattle.barratt_eccles.proofs.RefusalLemmas.{not_empty, zero-is}
use Rattle.barratt_eccles.proofs.tuple.is_zero.Goals as goal

pub returns-else-is_empty : goal.returns-else-is_empty
returns-else-is_empty c =
    c.is_some.ensures ∙ ap is_some c.equal_neighbours.ensures ∙ sym (zero-is c.args.entries.now (not_empty c.args.entries.now (sym c.is_empty.ensures ∙ c.if-is_empty.false)))
