use Rattle.std.proofs.Common.{◌≡◌, ◌%◌, take}
use Rattle.sparse_rows.specs.Rows.{pairing}
use Rattle.sparse_rows.proofs.row.Row.dot.Given as goal

abbrev pub invariant-loop-pair : goal.invariant-loop-pair
invariant-loop-pair g l = l.sum ≡ pairing (take l.pair-index l.pair-items) l.other % g.row.P
