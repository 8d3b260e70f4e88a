use Rattle.std.proofs.Common.{[], ◌∷◌, ◌++◌, take}
use Rattle.interval_cut.specs.Names.{IsPartOfGaps}
use Rattle.interval_cut.proofs.words.write_gaps.Given as goal

abbrev pub invariant-loop-i : goal.invariant-loop-i
invariant-loop-i l = IsPartOfGaps l.k l.values (l.inner ++ (l.top ∷ [])) l.at l.i l.start l.caesura l.next (take l.at l.initial.word) (take l.next l.word)
