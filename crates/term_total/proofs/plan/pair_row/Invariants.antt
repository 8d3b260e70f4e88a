use Rattle.std.proofs.Common.{◌≡◌, ◌++◌, drop, map}
use Rattle.term_total.specs.Names.{line_addend, pair_lines}
use Rattle.term_total.proofs.plan.pair_row.Given as goal

abbrev pub invariant-loop-line : goal.invariant-loop-line
invariant-loop-line l = l.addends.items ++ map (line_addend l.p l.part.simplices) (drop l.line-index l.line-items) ≡ map (line_addend l.p l.part.simplices) (pair_lines l.p l.part.ranks l.pair)
