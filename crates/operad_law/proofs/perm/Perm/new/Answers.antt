use Rattle.std.proofs.Common.{sym, ◌∙◌}
use Rattle.operad_law.proofs.PermLemmas.{no_fault}
use Rattle.operad_law.proofs.perm.Perm.new.Goals as goal

pub invariant_of-result : goal.invariant_of-result
invariant_of-result c = rw c.in-Ok.ensures.ok (no_fault c.args.values.now (sym c.fault_of.ensures ∙ c.in_default.is))
