use Rattle.std.proofs.Common.{◌≡◌, drop, take, All}
use Rattle.operad_law.specs.Permutations.{IsPerm}
use Rattle.table_reduction_law.specs.Names.{tuple_arity}
use Rattle.barratt_eccles.specs.Refusals.{other_length_from}
use Rattle.barratt_eccles.proofs.tuple.other_length.Given as goal

abbrev pub invariant-loop-i : goal.invariant-loop-i
invariant-loop-i l =
    (other_length_from l.arity l.i (drop l.i l.entries) ≡ other_length_from (tuple_arity l.entries) 0 l.entries) × All IsPerm (take l.i l.entries)
