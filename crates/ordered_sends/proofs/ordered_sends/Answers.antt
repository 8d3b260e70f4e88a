use Rattle.std.proofs.Common.{◌∙◌, ap, map}
use Rattle.ordered_sends.{specs.Sends.sent_of, proofs.SendLemmas.ordered}
use Rattle.ordered_sends.proofs.ordered_sends.Goals as goal

pub returns : goal.returns
returns c = ordered c.args.sends.now c.from.result c.in_ok-pairs.pairs.items c.requires c.in_ok-pairs.ensures (c.from.ensures ∙ c.in_ok-sends_of.ensures ∙ ap (map sent_of) c.deref.ensures.value)
