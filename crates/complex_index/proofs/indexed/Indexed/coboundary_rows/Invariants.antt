use Rattle.std.{proofs.Common.{◌+◌, length, map, take}, specs.List.AllZip}
use Rattle.linear_law.specs.Names.{Each}
use Rattle.simplicial_law.specs.Names.{IsCoboundaryRow}
use Rattle.sparse_rows.specs.Rows.{IsBelow, value_in}
use Rattle.complex_index.specs.Names.{level}
use Rattle.complex_index.proofs.indexed.Indexed.coboundary_rows.Given as goal

abbrev pub invariant-loop-place : goal.invariant-loop-place
invariant-loop-place g l = record {
  rows : AllZip (IsCoboundaryRow g.row.P (level l.self (l.n + 1))) (map value_in l.rows.items) (take l.place (level l.self l.n));
  inside : Each (IsBelow (length (level l.self (l.n + 1)))) l.rows.items;
}
