use Rattle.std.proofs.Common.{rules}
use Rattle.cohomology.proofs.WalkLemmas.{nothing_reached}
use Rattle.cohomology.proofs.walk.start.Goals as goal

pub returns : goal.returns
returns g c = λ sub. nothing_reached g.row.P c.args.full.now sub _ (c.in_ok-no_pivots.ensures.table g.row.P sub).few c.in_ok-no_pivots.ensures.none _ (search rules)
