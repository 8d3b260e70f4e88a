use Rattle.std.proofs.Common.{take}
use Rattle.sparse_rows.specs.Rows.{IsBelow, IsRow}
use Rattle.sparse_rows.proofs.row.is_row.Given as goal

abbrev pub invariant-loop-pair : goal.invariant-loop-pair
invariant-loop-pair g l = IsRow g.row.P (take l.pair-index l.pairs) × IsBelow l.least (take l.pair-index l.pairs)
