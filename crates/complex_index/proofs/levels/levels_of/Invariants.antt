use Rattle.complex_index.proofs.LevelLemmas.{IsPartly}
use Rattle.complex_index.proofs.levels.levels_of.Given as goal

abbrev pub invariant-loop-n : goal.invariant-loop-n
invariant-loop-n l = IsPartly l.all l.n l.levels.items
