use Rattle.std.proofs.Common.{◌∙◌, ap, get_or}
use Rattle.count_check.proofs.PlaceLemmas.{pairs_there}
use Rattle.count_check.proofs.pairs.has_pair_columns.Goals as goal

pub returns : goal.returns
returns c =
    let ranks = c.args.ranks.now in
    pairs_there _ _ _ _ _ _ (c.from-first.ensures ∙ c.rank_at.ensures ∙ ap (λ n. get_or ranks n 0) c.from.ensures) (c.from-second.ensures ∙ c.rank_at-2.ensures ∙ ap (λ n. get_or ranks n 0) c.from-2.ensures) c.len.ensures
