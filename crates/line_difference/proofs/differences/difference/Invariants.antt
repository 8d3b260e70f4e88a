use Rattle.std.proofs.Common.{take}
use Rattle.report_law.specs.Names.{cartan_pairs}
use Rattle.line_difference.specs.Differences.{IsLess}
use Rattle.line_difference.proofs.differences.difference.Given as goal

abbrev pub invariant-loop-pair : goal.invariant-loop-pair
invariant-loop-pair g l = IsLess {p = g.row.P} l.index l.line l.x l.y (take l.pair-index (cartan_pairs g.row.P l.line.a l.line.b l.line.n)) l.difference
