use Rattle.std.proofs.Common.{◌%◌, ◌∙◌, ap}
use Rattle.signed_sum.specs.Names.{cycle_power}
use Rattle.table_reduction_law.proofs.PowerPairs.{power-perm}
use Rattle.operad_law.proofs.PermLemmas.{cycle_power-mod, perm_of}
use Rattle.operad_law.proofs.perm.Perm.cycle.Goals as goal

pub invariant_of-result : goal.invariant_of-result
invariant_of-result c = rw c.in_ok-shifted_numbers.ensures (perm_of c.args.r _ c.requires.some c.requires.short (power-perm c.args.r (c.args.times % c.from.result)))

pub returns : goal.returns
returns c = c.in_ok-shifted_numbers.ensures ∙ ap (λ m. cycle_power c.args.r (c.args.times % m)) c.from.ensures ∙ cycle_power-mod c.args.r c.args.times c.requires.some
