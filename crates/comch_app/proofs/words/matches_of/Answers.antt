use Rattle.std.proofs.Common.{map, string_bytes}
use Rattle.clap.specs.Words.{app_of}
use Rattle.comch_app.proofs.CommandLineLemmas.{parsed}
use Rattle.comch_app.proofs.words.matches_of.Goals as goal

pub returns : goal.returns
returns c = record {
  given = parsed (app_of c.in_ok-line.line) (map string_bytes c.args.words.now) c.try_get_matches_from.result c.in_ok-line.ensures
      c.try_get_matches_from.ensures.kinds c.try_get_matches_from.ensures.matches;
}
