use Rattle.std.proofs.Common.{◌≡◌, ◌<◌, ◌^◌, drop}
use Rattle.complex_file.specs.Names.{number_after}
use Rattle.comch_app.proofs.words.number_of.Given as goal

abbrev pub invariant-loop-digit : goal.invariant-loop-digit
invariant-loop-digit l = record {
  fits : l.value < 10 ^ l.digit-index;
  same : number_after l.value (drop l.digit-index l.digits) ≡ number_after 0 l.digits;
}
