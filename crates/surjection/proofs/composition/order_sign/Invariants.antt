use Rattle.std.proofs.Common.{◌≡◌, drop}
use Rattle.surjection.specs.Names.{is_odd_order, is_odd_order_from}
use Rattle.surjection.proofs.composition.order_sign.Given as goal

abbrev pub invariant-loop-entry : goal.invariant-loop-entry
invariant-loop-entry l = is_odd_order_from l.inner l.odd (drop l.entry-index l.entries) ≡ is_odd_order l.entries
