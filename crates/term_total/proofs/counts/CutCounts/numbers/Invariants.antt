use Rattle.std.proofs.Common.{◌≡◌, ◌++◌, drop, map}
use Rattle.may_elements.specs.Counted.{cut_off}
use Rattle.term_total.specs.Names.{addend_number}
use Rattle.term_total.proofs.counts.CutCounts.numbers.Given as goal

abbrev pub invariant-loop-addend : goal.invariant-loop-addend
invariant-loop-addend g l = l.numbers.items ++ map cut_off (map (addend_number g.row.P) (drop l.addend-index l.addend-items)) ≡ map cut_off (map (addend_number g.row.P) l.row.addends)
