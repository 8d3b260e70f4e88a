use Rattle.std.proofs.Common.{◌==◌, ◌+◌, ◌∙◌, ap, drop, get_or}
use Rattle.operad_law.proofs.WordLemmas.{any_occurs, drop_rest}
use Rattle.signed_sum.specs.Names.{occurs}
use Rattle.interval_cut.proofs.ExponentLemmas.{as_number}
use Rattle.interval_cut.proofs.signs.comes_again.Goals as goal

pub returns : goal.returns
returns c =
    as_number c.contains.result (get_or c.args.values.now c.args.i 0) (drop (c.args.i + 1) c.args.values.now)
    (c.contains.ensures.value ∙ any_occurs (get_or c.args.values.now c.args.i 0) _ ∙ ap (λ xs. occurs (get_or c.args.values.now c.args.i 0) xs == 1) (drop_rest c.args.values.now (c.args.i + 1)))
