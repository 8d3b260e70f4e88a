use Rattle.std.proofs.Common.{take}
use Rattle.linear_law.specs.Names.{Each}
use Rattle.term_total.specs.Names.{AreReady, IsThere, Keeps}
use Rattle.term_total.proofs.parts.store_rows.Given as goal

abbrev pub invariant-loop-row : goal.invariant-loop-row
invariant-loop-row g l = Each (AreReady g.row.P (IsThere l.table)) (take l.row-index l.rows) × Keeps l.fn.table l.table
