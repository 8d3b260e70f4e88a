use Rattle.std.proofs.Common.{◌≡◌, take, length}
use Rattle.row_reduce.specs.Names.{AreOwnFrom}
use Rattle.row_reduce.proofs.space.own_rows.Given as goal

abbrev pub invariant-loop-row : goal.invariant-loop-row
invariant-loop-row g l = record {
  count : length l.echelon.items ≡ l.row-index;
  own : AreOwnFrom g.row.P 0 (take l.row-index l.given) l.echelon.items;
}
