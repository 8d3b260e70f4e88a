use Rattle.std.proofs.Common.{◌≡◌, ◌++◌, drop, map}
use Rattle.term_total.specs.Names.{pair_row, part_rows}
use Rattle.term_total.proofs.plan.add_rows.Given as goal

abbrev pub invariant-loop-pair : goal.invariant-loop-pair
invariant-loop-pair l = l.rows.items ++ map (pair_row l.p l.part) (drop l.pair-index l.pair-items) ≡ l.fn.rows.items ++ part_rows l.p l.part
