use Rattle.std.proofs.Common.{◌≡◌, take, flat_map}
use Rattle.complex_file.specs.Names.{texts}
use Rattle.report_text_law.specs.Names.{term_of}
use Rattle.report_lines.proofs.chain.chain_of.Given as goal

abbrev pub invariant-loop-word : goal.invariant-loop-word
invariant-loop-word l = l.terms.items ≡ flat_map term_of (texts (take l.word-index l.words))
