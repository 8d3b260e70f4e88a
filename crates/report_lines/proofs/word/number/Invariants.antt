use Rattle.std.proofs.Common.{◌≡◌, drop}
use Rattle.report_text_law.specs.Names.{number_after}
use Rattle.report_lines.proofs.word.number.Given as goal

abbrev pub invariant-loop-digit : goal.invariant-loop-digit
invariant-loop-digit l = number_after l.value (drop l.digit-index l.word) ≡ number_after 0 l.word
