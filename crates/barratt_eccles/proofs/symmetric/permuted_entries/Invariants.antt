use Rattle.std.proofs.Common.{◌≡◌, take}
use Rattle.table_reduction_law.specs.Names.{permuted_tuple}
use Rattle.barratt_eccles.proofs.symmetric.permuted_entries.Given as goal

abbrev pub invariant-loop-entry : goal.invariant-loop-entry
invariant-loop-entry l = l.moved.items ≡ permuted_tuple l.tau (take l.entry-index l.entries)
