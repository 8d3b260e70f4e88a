use Rattle.std.proofs.Common.{get_or, []}
use Rattle.cohomology.proofs.{Below.{Among, level}, PairLemmas.MarksTo}
use Rattle.cohomology.proofs.pairs.marks.Given as goal

abbrev pub invariant-loop-place : goal.invariant-loop-place
invariant-loop-place l = MarksTo (λ x. Among (get_or (level l.full l.n) x []) (level l.sub l.n)) l.place l.table.items
