use Rattle.std.proofs.{Common.{◌∙◌, get_or}, lemmas.Result.IfOk-weaker}
use Rattle.ordered_sends.proofs.SendLemmas.{image-is}
use Rattle.ordered_sends.proofs.map_of.Goals as goal

pub returns : goal.returns
returns c = IfOk-weaker c.of.result _ _ (λ m h v. image-is c.args.sends.now c.deref.result.now v (get_or m v 0) c.requires (c.deref.ensures.value ∙ c.in_ok-pairs.ensures) (h v)) c.of.ensures
