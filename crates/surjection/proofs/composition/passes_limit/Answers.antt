use Rattle.std.proofs.Common.{◌+◌, ◌^◌, ◌∙◌, ap, refl, sym, nat_lt}
use Rattle.table_reduction_law.specs.Names.{binomial}
use Rattle.surjection.proofs.CountLemmas.{count-rising, cut-off}
use Rattle.surjection.proofs.composition.passes_limit.Goals as goal

pub returns : goal.returns
returns c =
    ap (nat_lt (10 ^ 18)) c.binomial_up_to.ensures
    ∙ cut-off (10 ^ 18) (binomial (c.args.last + c.args.free) c.args.free)
    ∙ ap (nat_lt (10 ^ 18)) (sym (count-rising 0 c.args.last c.args.free (c.args.last + c.args.free) refl))
