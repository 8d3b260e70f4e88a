use Rattle.std.proofs.Common.{◌≡◌, ◌++◌, drop, map}
use Rattle.table_reduction_law.specs.Names.{candidate_count}
use Rattle.may_elements.specs.Counted.{cut_off}
use Rattle.term_total.proofs.elements.candidates_of.Given as goal

abbrev pub invariant-loop-d : goal.invariant-loop-d
invariant-loop-d g l = l.numbers.items ++ map cut_off (map (candidate_count g.row.P) (drop l.d-index l.degrees)) ≡ map cut_off (map (candidate_count g.row.P) l.degrees)
