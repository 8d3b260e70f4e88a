use Rattle.count_check.proofs.PlaceLemmas.{pair_past, pair_place}
use Rattle.count_check.proofs.pairs.pair_at.Goals as goal

pub returns-then-place-from : goal.returns-then-place-from
returns-then-place-from c = pair_place c.args.first c.args.second c.args.place c.from.result c.from-second.result c.from.ensures c.from-second.ensures c.if-place-from.true

pub returns-else-place-from : goal.returns-else-place-from
returns-else-place-from c = pair_past c.args.first c.args.second c.args.place c.from.result c.from-second.result c.from.ensures c.from-second.ensures c.if-place-from.false
