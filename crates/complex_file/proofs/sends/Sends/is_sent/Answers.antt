use Rattle.std.proofs.Common.{◌∙◌, List, ap}
use Rattle.complex_file.{specs.Names.{Sent, is_sent}, proofs.MapLemmas.sent_by_lookup}
use Rattle.complex_file.proofs.sends.Sends.is_sent.Goals as goal

pub returns : goal.returns
returns c =
    c.contains_key.ensures ∙ sent_by_lookup c.self.inside.images.entries c.args.v ∙ ap (λ (s : List Sent). is_sent s c.args.v) c.self.view_is
