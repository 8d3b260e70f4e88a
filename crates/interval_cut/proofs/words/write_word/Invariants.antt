use Rattle.std.proofs.Common.{◌≡◌, [], ◌∷◌, ◌++◌, length, take}
use Rattle.signed_sum.specs.Names.{numbers_from}
use Rattle.interval_cut_law.specs.Names.{gap_word}
use Rattle.interval_cut.proofs.words.write_word.Given as goal

abbrev pub invariant-loop-k : goal.invariant-loop-k
invariant-loop-k l =
    (l.next ≡ length (gap_word (numbers_from 1 l.k) l.values (l.inner ++ (l.top ∷ [])))) × (take l.next l.word ≡ gap_word (numbers_from 1 l.k) l.values (l.inner ++ (l.top ∷ [])))
