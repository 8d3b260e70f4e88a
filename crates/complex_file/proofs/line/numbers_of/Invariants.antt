-- What is found, and the numbers of the words that are left, are the numbers of all the words.
use Rattle.std.proofs.Common.{◌≡◌, drop}
use Rattle.complex_file.{specs.Names.{numbers, texts}, proofs.FacetLemmas.with_front}
use Rattle.complex_file.proofs.line.numbers_of.Given as goal

abbrev pub invariant-loop-word : goal.invariant-loop-word
invariant-loop-word l = with_front l.found.items (numbers (texts (drop l.word-index l.words))) ≡ numbers (texts l.words)
